-- What is refused before it is read.
use Rattle.wi_parser.proofs.Words.{◌≡◌, ℕ, suc, ◌≤◌, Bool, true, false, ◌||◌, List, [], ◌∷◌, refl, ap, arith, if◌then◌else◌, list_any, Symbol, is_sign, most_signs, meant_by, all_meant}
use Rattle.wi_parser.specs.declared.symbol.Symbol as code

pub any_meant : (p : Symbol → Bool) (ws : List code.Symbol) → list_any p (all_meant ws) ≡ list_any (λ w. p (meant_by w)) ws
any_meant p [] = refl
any_meant p (w ∷ ws) = ap (λ b. p (meant_by w) || b) (any_meant p ws)

least_if : (b : Bool) (n m k : ℕ) → n ≤ m → n ≤ k → n ≤ (if b then m else k)
least_if true n m k h e = h
least_if false n m k h e = e

pub least_signs : (n : ℕ) (ts : List Symbol) → n ≤ most_signs n ts
least_signs n [] = omega arith
least_signs n (x ∷ ts) = least_if (is_sign x) n _ _ (let h = least_signs (suc n) ts in omega arith) (omega arith)
