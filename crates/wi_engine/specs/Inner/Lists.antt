-- The lists of the values that were found for one formula.
use Rattle.std.specs.Prelude.{◌≡◌, ◌==◌, ℕ, Bool, true, false, ◌&&◌, List, [], ◌∷◌, ◌++◌, map, Option, Some, None, if◌then◌else◌}
use Rattle.std.specs.Option.{option_or}
use Rattle.std.specs.Ordering.{nat_cmp}
use Rattle.std.specs.Map.{lookup}
use Rattle.std.specs.BTreeMap.{get, is_at}
use Rattle.wi_values.specs.declared.value.Value.{Value}
use Rattle.wi_parser.specs.View.{pair_of}
use Rattle.wi_arguments.specs.Assignment.{addresses}
use Rattle.wi_engine.specs.declared.lists.Lists.{Lists}
use Rattle.wi_engine.specs.declared.lists.FoundWhatIf.{FoundWhatIf}

-- both have the same inputs, each with the same replacement cell
abbrev pub same_pairs : List (ℕ × ℕ) → List (ℕ × ℕ) → Bool
same_pairs [] [] = true
same_pairs [] (q ∷ qs) = false
same_pairs (p ∷ ps) [] = false
same_pairs (p ∷ ps) (q ∷ qs) = p.0 == q.0 && (p.1 == q.1 && same_pairs ps qs)

-- the inputs of what was found, each with its replacement cell
abbrev pub pairs_of : FoundWhatIf → List (ℕ × ℕ)
pairs_of f = map addresses (map pair_of f.pairs.items)

-- the first value for a what-if
abbrev pub first_for : List FoundWhatIf → ℕ → List (ℕ × ℕ) → Option Value
first_for [] c pairs = None
first_for (f ∷ fs) c pairs = if f.at == c && same_pairs (pairs_of f) pairs then Some f.value else first_for fs c pairs

-- the first value for a cell
abbrev pub first_of : List (ℕ × Value) → ℕ → Option Value
first_of [] c = None
first_of (e ∷ es) c = if e.0 == c then Some e.1 else first_of es c

-- the value of a cell
abbrev pub listed_value : Lists → ℕ → Option Value
listed_value f c = option_or (first_of f.first.items c) (option_or (lookup (is_at (nat_cmp c)) f.rising) (get nat_cmp f.others c))

-- the value of a what-if
abbrev pub listed_what_if : Lists → ℕ → List (ℕ × ℕ) → Option Value
listed_what_if f = first_for f.what_ifs.items

-- the second is the first with a cell's value
pub record IsWithListed (f g : Lists) (a : ℕ) (v : Value) : Type 0 where
  pub cells : (c : ℕ) → listed_value g c ≡ (if a == c then Some v else listed_value f c)
  pub what_ifs : g.what_ifs.items ≡ f.what_ifs.items

-- the second is the first with a what-if's value behind the others
pub record IsWithListedWhatIf (f g : Lists) (x : FoundWhatIf) : Type 0 where
  pub cells : (c : ℕ) → listed_value g c ≡ listed_value f c
  pub what_ifs : g.what_ifs.items ≡ f.what_ifs.items ++ x ∷ []

-- both have the same values
pub record IsSame (f g : Lists) : Type 0 where
  pub first : g.first.items ≡ f.first.items
  pub rising : g.rising ≡ f.rising
  pub others : g.others.entries ≡ f.others.entries
  pub what_ifs : g.what_ifs.items ≡ f.what_ifs.items
