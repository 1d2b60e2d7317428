-- The filled cells of a rectangle, one after another.
use Rattle.std.specs.Prelude.{◌≡◌, ℕ, ◌<◌, ◌≤◌, Bool, true, false, Option, Some, None, IfSome}
use Rattle.wi_values.specs.Address.{Area, is_within}
use Rattle.wi_values.specs.declared.value.Value.{Value}
use Rattle.wi_values.specs.declared.value.Value.TheVariants.{Empty}

-- what is known is that the cell is Empty
abbrev pub is_known_empty : Option Value → Bool
is_known_empty (Some Empty) = true
is_known_empty o = false

-- the cell comes before the one that was found, or none was
abbrev pub ComesBefore : ℕ → Option ℕ → Type 0
ComesBefore a None = Unit {0}
ComesBefore a (Some c) = a < c

-- What is found is the first cell of the rectangle, at `from` or after it, that isn't known to be Empty: it is none
-- that is, and each cell that is passed over is.
pub record IsNextFilled (known : ℕ → Option Value) (r : Area) (from : ℕ) (found : Option ℕ) : Type 0 where
  pub inside : IfSome found (λ c. (is_within r c ≡ true) × (from ≤ c))
  pub filled : IfSome found (λ c. is_known_empty (known c) ≡ false)
  pub empty_before : (a : ℕ) → is_within r a ≡ true → from ≤ a → ComesBefore a found → is_known_empty (known a) ≡ true
