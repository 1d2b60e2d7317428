-- Texts are compared by their bytes.
use Rattle.std.specs.Prelude.{◌≡◌, ℕ, List, true}
use Rattle.std.specs.Cmp.{IsEquivalence, IsPartialEquivalence, partial_equiv_from_equiv}
use Rattle.std.specs.Hash as fed
use Rattle.std.specs.Str.{bytes_eq}
use Rattle.std.proofs.lemmas.Cmp.{nat_list_eq_equiv}
use Rattle.std.proofs.lemmas.Slice.Eq.{bytes_eq-Decides}
use Rattle.std.proofs.Common.{ap, refl}

pub same_text_equiv : IsEquivalence bytes_eq
same_text_equiv = nat_list_eq_equiv

pub same_text_partial : IsPartialEquivalence bytes_eq
same_text_partial = partial_equiv_from_equiv same_text_equiv

-- texts that are equal feed a hasher alike
pub same_text_hash : (s t : List ℕ) → bytes_eq s t ≡ true → fed.str s ≡ fed.str t
same_text_hash s t e = ap fed.str ((bytes_eq-Decides s t).0 e)

-- for `grind`: the first part shows it the test to match
pub same_text_means : (s t : List ℕ) → bytes_eq s t ≡ true → (bytes_eq s t ≡ true) × (s ≡ t)
same_text_means s t e = (e, (bytes_eq-Decides s t).0 e)

pub same_text_itself : (t : List ℕ) → bytes_eq t t ≡ true
same_text_itself t = (bytes_eq-Decides t t).1 refl

pub ruleset texts = (same_text_means, same_text_itself)
