-- One turn of the reader's loop over the parameters of a call.
use Rattle.wi_parser.proofs.Words.{◌≡◌, ℕ, zero, suc, ◌-◌, ◌<◌, List, [], ◌∷◌, ◌++◌, length, Some, None, refl, sym, ap, ◌∙◌, arith, Expr, Tree, Trees, no_trees, more_trees, Symbol, tree_of, all_of, before, put_before, Parse, ReadAll, after_close, after_separator, put_first, and_then_all, after_parameter, unless_closed, more_parameters, first_parameter, parameters_at}

pub more_last : (inner : Parse) (n : ℕ) (ts us : List Symbol) → 0 < n → after_close ts ≡ Some us → more_parameters inner n ts ≡ Some (no_trees, us)
unfolding more_parameters
more_last inner zero ts us some h = absurd (omega arith)
more_last inner (suc n) ts us some h = ap (unless_closed inner (more_parameters inner n) ts) h

pub more_fail : (inner : Parse) (n : ℕ) (ts : List Symbol) → after_close ts ≡ None → after_separator ts ≡ None → more_parameters inner n ts ≡ None
unfolding more_parameters
more_fail inner zero ts h s = refl
more_fail inner (suc n) ts h s = ap (unless_closed inner (more_parameters inner n) ts) h ∙ ap (after_parameter inner (more_parameters inner n)) s

pub more_bad : (inner : Parse) (n : ℕ) (ts us : List Symbol) → after_close ts ≡ None → after_separator ts ≡ Some us → inner us ≡ None → more_parameters inner n ts ≡ None
unfolding more_parameters
more_bad inner zero ts us h s e = refl
more_bad inner (suc n) ts us h s e =
    let again = more_parameters inner n in
    ap (unless_closed inner again ts) h ∙ ap (after_parameter inner again) s ∙ ap (and_then_all again) e

pub more_again : (inner : Parse) (n : ℕ) (t : Tree) (ts us rest : List Symbol) → 0 < n → after_close ts ≡ None → after_separator ts ≡ Some us → inner us ≡ Some (t, rest)
    → more_parameters inner n ts ≡ put_first t (more_parameters inner (n - 1) rest)
unfolding more_parameters
more_again inner zero t ts us rest some h s e = absurd (omega arith)
more_again inner (suc n) t ts us rest some h s e =
    let again = more_parameters inner n in
    let less : suc n - 1 ≡ n = omega arith in
    ap (unless_closed inner again ts) h ∙ ap (after_parameter inner again) s ∙ ap (and_then_all again) e
    ∙ ap (λ m. put_first t (more_parameters inner m rest)) (sym less)

abbrev others_of : Parse → List Symbol → ReadAll
others_of inner l = more_parameters inner (length l) l

pub parameters_first : (inner : Parse) (ts rest : List Symbol) (t : Tree) → after_close ts ≡ None → inner ts ≡ Some (t, rest) → parameters_at inner ts ≡ put_first t (more_parameters inner (length rest) rest)
unfolding parameters_at
parameters_first inner ts rest t h e = ap (first_parameter inner ts) h ∙ ap (and_then_all (others_of inner)) e

pub parameters_bad : (inner : Parse) (ts : List Symbol) → after_close ts ≡ None → inner ts ≡ None → parameters_at inner ts ≡ None
unfolding parameters_at
parameters_bad inner ts h e = ap (first_parameter inner ts) h ∙ ap (and_then_all (others_of inner)) e

-- ---- what was found before

pub before-push : (es : List Expr) (e : Expr) (ts : Trees) → before (es ++ e ∷ []) ts ≡ before es (more_trees (tree_of e) ts)
before-push [] e ts = refl
before-push (x ∷ es) e ts = ap (more_trees (tree_of x)) (before-push es e ts)

pub before-none : (es : List Expr) → before es no_trees ≡ all_of es
before-none [] = refl
before-none (x ∷ es) = ap (more_trees (tree_of x)) (before-none es)

-- one more was found
pub put_before-first : (es : List Expr) (e : Expr) (r : ReadAll) → put_before es (put_first (tree_of e) r) ≡ put_before (es ++ e ∷ []) r
put_before-first es e None = refl
put_before-first es e (Some p) = ap (λ ts. Some (ts, p.1)) (sym (before-push es e p.0))

-- nothing was found before
pub put_before-nothing : (r : ReadAll) → put_before [] r ≡ r
put_before-nothing None = refl
put_before-nothing (Some p) = refl
