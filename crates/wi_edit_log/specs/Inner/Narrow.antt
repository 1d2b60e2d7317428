-- Rectangles of few cells.
use Rattle.std.specs.Prelude.{ℕ, Bool, nat_le, List}
use Rattle.std.specs.List.{list_all}
use Rattle.wi_values.specs.Address.{Area, size_of}

-- so many cells a rectangle has at most that is noted cell by cell
abbrev pub few : ℕ
few = 32

abbrev pub are_narrow : List Area → Bool
are_narrow areas = list_all (λ r. nat_le (size_of r) few) areas
