-- A Text is taken for itself.
use Rattle.wi_value_functions.proofs.Words.{◌≡◌, refl, ℕ, List, Ok, shown_text, Text, to_text}

pub text_itself : (t : List ℕ) → to_text (Text t) ≡ Ok t
unfolding shown_text
text_itself t = refl
