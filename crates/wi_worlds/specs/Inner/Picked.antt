-- Replacements by their cells.
use Rattle.std.specs.Prelude.{ℕ, List, [], ◌∷◌, Option, Some, None}
use Rattle.std.specs.Option.{option_map}
use Rattle.wi_values.specs.declared.replacement.Replacement.{Replacement}
use Rattle.wi_values.specs.Replacements.{replaced}

-- the replacement of the cell a, if there is one
abbrev pub replacement_at : List Replacement → ℕ → Option Replacement
replacement_at rs a = option_map (λ v. record { at = a; value = v }) (replaced rs a)

abbrev pub and_then : Option Replacement → List Replacement → List Replacement
and_then None rs = rs
and_then (Some r) rs = r ∷ rs

-- the replacements of these cells, in their order
abbrev pub picked : List Replacement → List ℕ → List Replacement
picked rs [] = []
picked rs (c ∷ cs) = and_then (replacement_at rs c) (picked rs cs)
