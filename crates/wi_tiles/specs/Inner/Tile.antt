-- What a tile of 64 cells has, by its bits and values.
use Rattle.std.specs.Prelude.{ℕ, ◌^◌, ◌%◌, ◌==◌, if◌then◌else◌, List, map, Option, None, slice_get, count_ones}
use Rattle.std.specs.Int.{bit_at}
use Rattle.std.specs.List.{range_with_len}

-- how many ones stand below a bit
abbrev pub rank : ℕ → ℕ → ℕ
rank n i = count_ones (n % 2 ^ i)

-- the value at a bit
abbrev pub at_bit : {V : Type 0} → ℕ → List V → ℕ → Option V
at_bit n vs i = (if bit_at n i == 1 then slice_get vs (rank n i) else None)

-- what each of the bits has
unfoldable pub slots : {V : Type 0} → ℕ → List V → List (Option V)
slots n vs = map (λ i. at_bit n vs i) (range_with_len 0 64)
