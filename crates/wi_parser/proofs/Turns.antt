-- One turn of the reader's loop, and how many symbols it takes.
use Rattle.wi_parser.proofs.Words.{◌≡◌, ℕ, zero, suc, ◌-◌, ◌<◌, List, [], ◌∷◌, Option, Some, None, option_map, refl, sym, ap, ◌∙◌, arith, Operator, Sign, Tree, percent, binary, Symbol, percent_mark, ParseFault, TooLong, OutOfSheet, NumberRange, TooDeep, Syntax, Memory, Fails, Parse, read_then, after_percent, sign_of, sign_at, operator_at, signed_read, prefix_step, prefixed, percents, chain, chain_step}
use Rattle.wi_parser.proofs.Marks.{map_ok}

-- ---- signs

map_none : {A B : Type 0} (f : A → B) (o : Option A) → option_map f o ≡ None → o ≡ None
map_none f None h = refl
map_none f (Some a) h = cc

pub prefix_stop : (next : Parse) (ts : List Symbol) → sign_at ts ≡ None → prefixed next ts ≡ next ts
prefix_stop next [] h = refl
prefix_stop next (x ∷ ts) h = ap (prefix_step (next (x ∷ ts)) (prefixed next ts)) (map_none (λ s. (s, ts)) (sign_of x) h)

pub prefix_more : (next : Parse) (s : Sign) (ts us : List Symbol) → sign_at ts ≡ Some (s, us) → prefixed next ts ≡ signed_read s (prefixed next us)
prefix_more next s [] us h = cc
prefix_more next s (x ∷ ts) us h =
    let a = map_ok (λ s. (s, ts)) (sign_of x) (s, us) h in
    ap (prefix_step (next (x ∷ ts)) (prefixed next ts)) a.1 ∙ ap (λ p. signed_read p.0 (prefixed next p.1)) a.2

-- ---- percent marks

pub percents_stop : (t : Tree) (ts : List Symbol) → after_percent ts ≡ None → percents t ts ≡ Some (t, ts)
percents_stop t [] h = refl
percents_stop t (percent_mark ∷ ts) h = cc
percents_stop t (x ∷ ts) h = refl

pub percents_more : (t : Tree) (ts us : List Symbol) → after_percent ts ≡ Some us → percents t ts ≡ percents (percent t) us
percents_more t [] us h = cc
percents_more t (percent_mark ∷ ts) us h = let is : ts ≡ us = cc in ap (percents (percent t)) is
percents_more t (x ∷ ts) us h = cc

-- ---- operators

pub chain_stop : (next : Parse) (k n : ℕ) (left : Tree) (ts : List Symbol) → operator_at k ts ≡ None → chain next k n left ts ≡ Some (left, ts)
unfolding chain
chain_stop next k zero left ts h = refl
chain_stop next k (suc n) left ts h = ap (chain_step next (chain next k n) left ts) h

pub chain_fail : (next : Parse) (k n : ℕ) (left : Tree) (ts us : List Symbol) (op : Operator) → 0 < n → operator_at k ts ≡ Some (op, us) → next us ≡ None → chain next k n left ts ≡ None
unfolding chain
chain_fail next k zero left ts us op some h e = absurd (omega arith)
chain_fail next k (suc n) left ts us op some h e =
    ap (chain_step next (chain next k n) left ts) h ∙ ap (read_then (λ r rest. chain next k n (binary op left r) rest)) e

pub chain_more : (next : Parse) (k n : ℕ) (left r : Tree) (ts us rest : List Symbol) (op : Operator) → 0 < n → operator_at k ts ≡ Some (op, us) → next us ≡ Some (r, rest)
    → chain next k n left ts ≡ chain next k (n - 1) (binary op left r) rest
unfolding chain
chain_more next k zero left r ts us rest op some h e = absurd (omega arith)
chain_more next k (suc n) left r ts us rest op some h e =
    let less : suc n - 1 ≡ n = omega arith in
    ap (chain_step next (chain next k n) left ts) h ∙ ap (read_then (λ r rest. chain next k n (binary op left r) rest)) e
    ∙ ap (λ m. chain next k m (binary op left r) rest) (sym less)

-- ---- faults

pub fails_as : {A B : Type 0} (e : ParseFault) (r : Option A) (s : Option B) → (r ≡ None → s ≡ None) → Fails e r → Fails e s
fails_as TooLong r s f h = h
fails_as OutOfSheet r s f h = h
fails_as NumberRange r s f h = h
fails_as TooDeep r s f h = h
fails_as Syntax r s f h = f h
fails_as Memory r s f h = tt
