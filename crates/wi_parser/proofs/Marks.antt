-- What stands first, where one symbol is looked for.
use Rattle.wi_parser.proofs.Words.{◌≡◌, ℕ, ◌+◌, ◌≤◌, ◌==◌, nat_le, List, [], ◌∷◌, ◌++◌, length, Option, Some, None, option_map, refl, sym, ap, ◌∙◌, subst, arith, eqb-true, leb-true, cond_some, then_some, Operator, Add, Subtract, Power, Reference, Sign, Plus, Minus, Symbol, reference, open_parenthesis, close_parenthesis, separator, infix_mark, sign_mark, percent_mark, level_of, pair_symbols, after_open, after_close, after_separator, after_percent, reference_at, sign_of, sign_at, operator_at, operator_within, parameter_at, pair_at}

pub open_is : (ts us : List Symbol) → after_open ts ≡ Some us → ts ≡ open_parenthesis ∷ us
open_is [] us h = cc
open_is (open_parenthesis ∷ ts) us h = cc
open_is (s ∷ ts) us h = cc

pub close_is : (ts us : List Symbol) → after_close ts ≡ Some us → ts ≡ close_parenthesis ∷ us
close_is [] us h = cc
close_is (close_parenthesis ∷ ts) us h = cc
close_is (s ∷ ts) us h = cc

pub separator_is : (ts us : List Symbol) → after_separator ts ≡ Some us → ts ≡ separator ∷ us
separator_is [] us h = cc
separator_is (separator ∷ ts) us h = cc
separator_is (s ∷ ts) us h = cc

pub percent_is : (ts us : List Symbol) → after_percent ts ≡ Some us → ts ≡ percent_mark ∷ us
percent_is [] us h = cc
percent_is (percent_mark ∷ ts) us h = cc
percent_is (s ∷ ts) us h = cc

pub sign_is : (x : Symbol) (s : Sign) → sign_of x ≡ Some s → x ≡ sign_mark s
sign_is (infix_mark Add) s h = let is : Plus ≡ s = cc in ap sign_mark is
sign_is (infix_mark Subtract) s h = let is : Minus ≡ s = cc in ap sign_mark is
sign_is x s h = cc

pub reference_is : (ts : List Symbol) (p : Reference × List Symbol) → reference_at ts ≡ Some p → ts ≡ reference p.0 ∷ p.1
reference_is [] p h = cc
reference_is (reference r ∷ ts) p h = cc
reference_is (s ∷ ts) p h = cc

pub operator_is : (k : ℕ) (ts us : List Symbol) (op : Operator) → operator_at k ts ≡ Some (op, us) → (level_of op ≡ k) × (ts ≡ infix_mark op ∷ us)
operator_is k [] us op h = cc
operator_is k (infix_mark o ∷ ts) us op h =
    let p = cond_some (level_of o == k) (o, ts) (op, us) h in
    let same : o ≡ op = ap (λ q. q.0) p.1 in
    let rest : ts ≡ us = ap (λ q. q.1) p.1 in
    (sym (ap level_of same) ∙ eqb-true (level_of o) k p.0, cc)
operator_is k (s ∷ ts) us op h = cc

pub within_is : (k : ℕ) (ts us : List Symbol) (op : Operator) → operator_within k ts ≡ Some (op, us) → (level_of op ≤ k) × (ts ≡ infix_mark op ∷ us)
within_is k [] us op h = cc
within_is k (infix_mark o ∷ ts) us op h =
    let p = cond_some (nat_le (level_of o) k) (o, ts) (op, us) h in
    let same : o ≡ op = ap (λ q. q.0) p.1 in
    let rest : ts ≡ us = ap (λ q. q.1) p.1 in
    (subst (λ q. level_of q ≤ k) same (leb-true (level_of o) k p.0), cc)
within_is k (s ∷ ts) us op h = cc

-- no level tighter than powers has an operator
pub from_powers : (op : Operator) → 3 ≤ level_of op
from_powers Power = omega arith
from_powers op = omega arith

-- ---- what follows is shorter

pub operator-length : (k : ℕ) (ts us : List Symbol) (op : Operator) → operator_at k ts ≡ Some (op, us) → length ts ≡ length us + 1
operator-length k ts us op h = let is = ap length (operator_is k ts us op h).1 in omega (arith, is)

pub percent-length : (ts us : List Symbol) → after_percent ts ≡ Some us → length ts ≡ length us + 1
percent-length ts us h = let is = ap length (percent_is ts us h) in omega (arith, is)

pub close-length : (ts us : List Symbol) → after_close ts ≡ Some us → length ts ≡ length us + 1
close-length ts us h = let is = ap length (close_is ts us h) in omega (arith, is)

pub separator-length : (ts us : List Symbol) → after_separator ts ≡ Some us → length ts ≡ length us + 1
separator-length ts us h = let is = ap length (separator_is ts us h) in omega (arith, is)

-- ---- pairs

pub map_ok : {A B : Type 0} (f : A → B) (o : Option A) (b : B) → option_map f o ≡ Some b → (a : A) × (o ≡ Some a) × (f a ≡ b)
map_ok f None b h = cc
map_ok f (Some a) b h = (a, refl, cc)

pub parameter_is : (ts : List Symbol) (p : Reference × List Symbol) → parameter_at ts ≡ Some p → ts ≡ separator ∷ reference p.0 ∷ p.1
parameter_is ts p h =
    let a = then_some (after_separator ts) reference_at p h in
    separator_is ts a.0 a.1 ∙ ap (λ us. separator ∷ us) (reference_is a.0 p a.2)

pub pair_is : (ts : List Symbol) (p : (Reference × Reference) × List Symbol) → pair_at ts ≡ Some p → ts ≡ pair_symbols p.0 ++ p.1
unfolding pair_at
pair_is ts p h =
    let a = then_some (parameter_at ts) (λ r. option_map (λ x. ((r.0, x.0), x.1)) (parameter_at r.1)) p h in
    let b = map_ok (λ x. ((a.0.0, x.0), x.1)) (parameter_at a.0.1) p a.2 in
    parameter_is ts a.0 a.1 ∙ ap (λ us. separator ∷ reference a.0.0 ∷ us) (parameter_is a.0.1 b.0 b.1)
    ∙ ap (λ q. pair_symbols q.0 ++ q.1) b.2

-- ---- signs

pub sign-length : (ts us : List Symbol) (s : Sign) → sign_at ts ≡ Some (s, us) → length ts ≡ length us + 1
sign-length [] us s h = cc
sign-length (x ∷ ts) us s h =
    let a = map_ok (λ s. (s, ts)) (sign_of x) (s, us) h in
    let is = ap (λ p. length p.1) a.2 in
    omega (arith, is)
