-- How a text begins.
use Rattle.wi_lookup_functions.proofs.Words.{◌≡◌, ◌≢◌, ℕ, Bool, true, false, List, ◌++◌, length, drop, nat_eq, Option, Some, None, MatchOption, refl, sym, ap, ◌∙◌, starts_with, FindsTextPrefix, StripsPrefix, starts_is, Decides-eqb, IsRestAfter}
use Rattle.std.proofs.Common.{Bor}

lacks : (sign text : List ℕ) (b : Bool) → starts_with nat_eq text sign ≡ b → ((rest : List ℕ) → text ≢ sign ++ rest) → b ≡ false
lacks sign text true e h = absurd (h (drop (length sign) text) ((starts_is Decides-eqb text sign true (sym e)).0 refl))
lacks sign text false e h = refl

-- what `strip_prefix` gives
pub rest_after : (sign text : List ℕ) (r : Option (Bor (List ℕ))) → MatchOption r (FindsTextPrefix sign text None) (λ x. StripsPrefix (FindsTextPrefix sign) text x.now) → IsRestAfter sign text r
rest_after sign text None h = lacks sign text (starts_with nat_eq text sign) refl h
rest_after sign text (Some x) (n, found, is, len) =
    ((starts_is Decides-eqb text sign (starts_with nat_eq text sign) refl).1 (drop n text) found.1, is ∙ ap (λ (k : ℕ). drop k text) found.0)
