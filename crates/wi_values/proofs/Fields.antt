-- Fields, and texts of numbers.
use Rattle.wi_values.proofs.Words.{◌≡◌, ℕ, List, [], ◌∷◌, length, refl, reads_back, imported, field_value, NumbersReadBack}

-- a field that is not empty is taken for the value of its text
pub field_of_text : (bs : List ℕ) → (length bs ≡ 0 → ⊥) → field_value bs ≡ imported bs
field_of_text [] some = absurd (some refl)
field_of_text (b ∷ bs) some = refl

pub numbers_read_back : NumbersReadBack
unfolding imported
numbers_read_back x = rw (reads_back x)
