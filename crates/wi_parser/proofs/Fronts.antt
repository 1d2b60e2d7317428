-- How a text begins.
use Rattle.wi_parser.proofs.Words.{◌≡◌, ◌≢◌, ℕ, Bool, true, false, ◌==◌, List, [], ◌∷◌, ◌++◌, Option, Some, None, option_map, MatchOption, Bor, refl, sym, ap, ◌∙◌, if◌then◌else◌, eqb-true, eq-eqb, FindsTextPrefix, StripsPrefix, after}

pub after-append : (p rest : List ℕ) → after p (p ++ rest) ≡ Some rest
after-append [] rest = refl
after-append (c ∷ cs) rest = ap (λ b. if b then after cs (cs ++ rest) else None) (eq-eqb c c refl) ∙ after-append cs rest

joined : (c b : ℕ) (cs bs rest : List ℕ) (test : Bool) → (b == c) ≡ test → (after cs bs ≡ Some rest → bs ≡ cs ++ rest) → (if test then after cs bs else None) ≡ Some rest → b ∷ bs ≡ c ∷ cs ++ rest
joined c b cs bs rest true is again h = let same = eqb-true b c is in let tail = again h in cc
joined c b cs bs rest false is again h = cc

pub after-some : (p bs rest : List ℕ) → after p bs ≡ Some rest → bs ≡ p ++ rest
after-some [] bs rest h = cc
after-some (c ∷ cs) [] rest h = cc
after-some (c ∷ cs) (b ∷ bs) rest h = joined c b cs bs rest (b == c) refl (after-some cs bs rest) h

lacks : (p bs : List ℕ) (o : Option (List ℕ)) → after p bs ≡ o → ((rest : List ℕ) → bs ≢ p ++ rest) → o ≡ None
lacks p bs None is h = refl
lacks p bs (Some rest) is h = absurd (h rest (after-some p bs rest is))

-- what `strip_prefix` gives
pub stripped : (p bs : List ℕ) (r : Option (Bor (List ℕ))) → MatchOption r (FindsTextPrefix p bs None) (λ x. StripsPrefix (FindsTextPrefix p) bs x.now) → option_map (λ x. x.now) r ≡ after p bs
stripped p bs None h = sym (lacks p bs (after p bs) refl h)
stripped p bs (Some x) (n, found, is, len) =
    sym (ap (after p) (found.1 ∙ ap (λ l. p ++ l) (sym is)) ∙ after-append p x.now)
