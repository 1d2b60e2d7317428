-- Lists of replacements, and what they are as a map from addresses to values. A replacement by Empty is an entry like
-- others.
use Rattle.std.specs.Prelude.{◌==◌, ℕ, Bool, List, [], ◌∷◌, map, Option, Some, None, if◌then◌else◌}
use Rattle.std.specs.Cmp.Lexicographic.{pointwise}
use Rattle.std.specs.List.{list_any}
use Rattle.std.specs.Option.{option_or}
use Rattle.std.specs.Ordering.{nat_cmp}
use Rattle.std.specs.List.Sorted.{IsStrictlyIncreasing}
use Rattle.std.specs.Map.{lookup}
use Rattle.std.specs.BTreeMap.{is_at, insert_entry}
use Rattle.wi_values.specs.declared.value.Value.{Value}
use Rattle.wi_values.specs.declared.replacement.Replacement.{Replacement}
use Rattle.wi_values.specs.contracts.replacement.ReplacementPartialEq.TheImpl as equality

-- each address is replaced at most once, and the replacements stand in row-major order
abbrev pub IsInOrder : List Replacement → Type 0
IsInOrder rs = IsStrictlyIncreasing (map (λ r. r.at) rs)

abbrev pub as_map : List Replacement → List (ℕ × Value)
as_map rs = map (λ r. (r.at, r.value)) rs

-- the entries of a map as replacements
abbrev pub as_replacements : List (ℕ × Value) → List Replacement
as_replacements es = map (λ e. record { at = e.0; value = e.1 }) es

-- what stands in the place of an address's content, if anything does
abbrev pub replaced : List Replacement → ℕ → Option Value
replaced rs a = lookup (is_at (nat_cmp a)) (as_map rs)

abbrev pub is_replaced : List Replacement → ℕ → Bool
is_replaced rs a = list_any (λ r. r.at == a) rs

-- with replacements put in, one after another
abbrev pub overridden : List (ℕ × Value) → List Replacement → List (ℕ × Value)
overridden es [] = es
overridden es (r ∷ rs) = overridden (insert_entry nat_cmp es r.at r.value) rs

-- the last value that a list has for an address
abbrev pub last_for : List Replacement → ℕ → Option Value
last_for [] a = None
last_for (r ∷ rs) a = option_or (last_for rs a) (if r.at == a then Some r.value else None)

-- whether two lists have the same replacements
abbrev pub same_replacements : List Replacement → List Replacement → Bool
same_replacements = pointwise equality.ghosts.eq
