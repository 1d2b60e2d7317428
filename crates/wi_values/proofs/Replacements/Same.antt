-- Two lists of replacements are compared one by one, and are equal exactly where they are one list.
use Rattle.wi_values.proofs.Words.{◌≡◌, List, refl, Decides, slice_eq-Decides, Replacement, same_replacements}
use Rattle.wi_values.proofs.Equal.{same_replacement_Decides}

pub same_replacements_Decides : (v w : List Replacement) → Decides (same_replacements v w) (v ≡ w)
same_replacements_Decides v w = slice_eq-Decides same_replacement_Decides v w (same_replacements v w) refl
