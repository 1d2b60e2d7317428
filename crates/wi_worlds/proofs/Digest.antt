-- What digests tell of lists of replacements.
use Rattle.wi_worlds.proofs.Words.{◌≡◌, ℕ, Bool, true, false, nat_eq, List, refl, sym, ap, ◌∙◌, ne_eqb, Replacement, same_replacements, same_replacements_Decides, digest_of}

-- lists of different digests are different
pub told_apart : (v w : List Replacement) (n m : ℕ) → n ≡ digest_of v → m ≡ digest_of w → (n ≡ m → ⊥) → nat_eq n m ≡ same_replacements v w
told_apart v w n m e f h = ne_eqb n m h ∙ sym (by (same_replacements v w) refl)
  where
    by : (b : Bool) → same_replacements v w ≡ b → b ≡ false
    by false t = refl
    by true t = absurd (h (e ∙ ap digest_of ((same_replacements_Decides v w).0 t) ∙ sym f))
