-- The occupied cells that a formula reads, as a list.
use Rattle.std.specs.Prelude.{ℕ, Bool, true, List, [], filter, nat_lt, Option, Some, None}
use Rattle.std.specs.List.{flat_map}
use Rattle.std.specs.Map.{keys_of}
use Rattle.wi_values.specs.Address.{Area, is_within}
use Rattle.wi_parser.specs.declared.content.Content.{Content}
use Rattle.wi_parser.specs.declared.content.Content.TheVariants.{Constant, Formula}
use Rattle.wi_parser.specs.Sheet.{Sheet}
use Rattle.wi_parser.specs.Reads.{rectangles_of}

-- the rectangles that a content reads
abbrev pub rectangles_in : Option Content → List Area
rectangles_in None = []
rectangles_in (Some (Constant v)) = []
rectangles_in (Some (Formula t)) = rectangles_of t

-- the occupied cells of rectangles, of one after the other
abbrev pub occupied_within : Sheet → List Area → List ℕ
occupied_within s rs = flat_map (λ r. filter (is_within r) (keys_of s)) rs

-- the cell comes after the one last looked at, if one was
abbrev pub is_after : Option ℕ → ℕ → Bool
is_after None a = true
is_after (Some c) a = nat_lt c a

-- the occupied cells of a rectangle after the one last looked at
abbrev pub cells_after : Sheet → Area → Option ℕ → List ℕ
cells_after s r o = filter (is_after o) (filter (is_within r) (keys_of s))
