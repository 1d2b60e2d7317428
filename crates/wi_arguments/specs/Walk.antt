-- A walk through cells.
use Rattle.std.specs.Prelude.{◌≡◌, ℕ, ◌<◌, nat_le, true, List, [], fold, filter, Option, Some, None, IfSome}
use Rattle.wi_values.specs.Address.{Area, is_within, cells_of}
use Rattle.wi_values.specs.declared.value.Value.{Value}
use Rattle.wi_arguments.specs.Arguments.{KnownAgrees}
use Rattle.wi_arguments.specs.Filled.{ComesBefore, is_known_empty}

-- what is left after cells were taken one after another
abbrev pub after_cells : {S : Type 0} → (S → ℕ → Value → S) → (ℕ → Value) → S → List ℕ → S
after_cells after cells s xs = fold (λ t c. after t c (cells c)) s xs

-- the cells of the rectangle from this one on; none where there is none
abbrev pub to_come : Area → Option ℕ → List ℕ
to_come r None = []
to_come r (Some c) = filter (λ a. nat_le c a) (cells_of r)

-- Whatever the cells hold of which this is known: the cells from `next` on make of the new state what those from `from`
-- on make of the old.
abbrev pub HasTaken : {S : Type 0} → (S → ℕ → Value → S) → (ℕ → Option Value) → Area → S → Option ℕ → S → Option ℕ → Type 0
HasTaken after known r old from new next = (cells : ℕ → Value) → KnownAgrees known cells → after_cells after cells new (to_come r next) ≡ after_cells after cells old (to_come r from)

-- what is found is the first cell of the rectangle after this one that isn't known to be Empty
pub record IsNextAfter (known : ℕ → Option Value) (r : Area) (at : ℕ) (found : Option ℕ) : Type 0 where
  pub inside : IfSome found (λ c. (is_within r c ≡ true) × (at < c))
  pub empty_between : (a : ℕ) → is_within r a ≡ true → at < a → ComesBefore a found → is_known_empty (known a) ≡ true
