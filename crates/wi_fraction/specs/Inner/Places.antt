-- How the fewest decimal places are found: one number of places after another.
use Rattle.std.specs.Prelude.{ℕ, ◌%◌, ◌^◌, ◌==◌, find, Option}
use Rattle.std.specs.List.{range_with_len}

-- the first number of places from k on, among so many, at which d divides the power of ten
unfoldable pub places_from : ℕ → ℕ → ℕ → Option ℕ
places_from tries k d = find (λ i. 10 ^ i % d == 0) (range_with_len k tries)
