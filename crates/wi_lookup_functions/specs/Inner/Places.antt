-- The places of rectangles of one size, each told by the cell of the first that stands there.
use Rattle.std.specs.Prelude.{◌≡◌, ℕ, ◌<◌, true, List, Option, IfSome}
use Rattle.std.specs.List.{list_all}
use Rattle.wi_values.specs.Address.{Area, is_within}
use Rattle.wi_values.specs.declared.value.Value.{Value}
use Rattle.wi_arguments.specs.Filled.{ComesBefore, is_known_empty}
use Rattle.wi_lookup_functions.specs.Inner.Sums.{same_place}

-- the place comes after the one that was passed, or none was
abbrev pub ComesAfter : Option ℕ → ℕ → Type 0
ComesAfter passed a = IfSome passed (λ p. p < a)

-- what is found comes after what was passed, and at each place between them each rectangle's cell is known to be Empty
pub record IsNextPlace (known : ℕ → Option Value) (r : Area) (rs : List Area) (passed found : Option ℕ) : Type 0 where
  pub inside : IfSome found (λ c. (is_within r c ≡ true) × ComesAfter passed c)
  pub empty_between : (a : ℕ) → is_within r a ≡ true → ComesAfter passed a → ComesBefore a found → list_all (λ s. is_known_empty (known (same_place r s a))) rs ≡ true
