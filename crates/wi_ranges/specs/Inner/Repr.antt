-- What the readers of one cell are kept as.
use Rattle.std.specs.Prelude.{ℕ, List, [], ◌∷◌}
use Rattle.wi_ranges.specs.declared.few.Repr.{Repr}
use Rattle.wi_ranges.specs.declared.few.Repr.TheVariants.{One, More}

abbrev pub cells_in : Repr → List ℕ
cells_in (One cell) = cell ∷ []
cells_in (More many) = many.value
