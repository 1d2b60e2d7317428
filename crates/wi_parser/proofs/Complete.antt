-- What is spelled is found, whatever follows that cannot go on with it.
use Rattle.wi_parser.proofs.Words.{◌≡◌, ℕ, zero, suc, ◌+◌, ◌-◌, ◌<◌, ◌≤◌, max, cond, List, [], ◌∷◌, ◌++◌, length, Some, None, option_and_then, refl, sym, ap, ◌∙◌, arith, append_assoc, append-nil, length-append, ne_eqb, eq-eqb, Number, Corners, Operator, Reference, Sign, Plus, Minus, Tree, number, cell, rectangle, parenthesized, signed, percent, binary, what_if, Trees, text, call, no_trees, more_trees, Symbol, numeral, reference, corners, open_parenthesis, close_parenthesis, infix_mark, sign_mark, percent_mark, text_literal, separator, name, level_of, pair_symbols, what_if_symbols, loosest, Spells, a_number, a_cell, a_rectangle, in_parentheses, one_input, two_inputs, with_sign, with_percent, tighter, joined, SpellsAll, SpellsMore, a_text, a_call, no_parameter, parameters, last_parameter, another_parameter, Parse, read_then, then_close, after_percent, operator_at, pair_at, what_if_at, atom, signed_read, prefixed, percents, chain, level, expression, if_last, whole, after_close, put_first, more_parameters, parameters_at, as_call, depth, greatest_depth}
use Rattle.wi_parser.proofs.Marks.{from_powers}
use Rattle.wi_parser.proofs.Turns.{percents_stop, chain_stop, chain_more}
use Rattle.wi_parser.proofs.Parameters.{parameters_first, more_last, more_again}

-- no percent mark and no operator of the levels up to k stands first
abbrev pub Stops : ℕ → List Symbol → Type 0
Stops zero rest = Unit {0}
Stops (suc zero) rest = Unit {0}
Stops (suc (suc zero)) rest = after_percent rest ≡ None
Stops (suc (suc (suc k))) rest = Stops (suc (suc k)) rest × (operator_at (suc (suc (suc k))) rest ≡ None)

-- an operator of a looser level stops
stops_at : (k : ℕ) (op : Operator) (ts : List Symbol) → k < level_of op → Stops k (infix_mark op ∷ ts)
stops_at zero op ts h = tt
stops_at (suc zero) op ts h = tt
stops_at (suc (suc zero)) op ts h = refl
stops_at (suc (suc (suc k))) op ts h =
    (stops_at (suc (suc k)) op ts (omega arith), ap (λ b. cond b (Some (op, ts)) None) (ne_eqb (level_of op) (suc (suc (suc k))) (λ e. omega arith)))

-- nothing that goes on stands there
ended : Stops loosest []
ended = (((((refl, refl), refl), refl), refl), refl)

closed : (rest : List Symbol) → Stops loosest (close_parenthesis ∷ rest)
closed rest = (((((refl, refl), refl), refl), refl), refl)

separated : (rest : List Symbol) → Stops loosest (separator ∷ rest)
separated rest = (((((refl, refl), refl), refl), refl), refl)

-- no tree begins with the parenthesis that closes
not_closed : {k : ℕ} {t : Tree} {ts : List Symbol} (rest : List Symbol) → Spells k t ts → after_close (ts ++ rest) ≡ None
not_closed rest (a_number x) = refl
not_closed rest (a_text s) = refl
not_closed rest (a_cell r) = refl
not_closed rest (a_rectangle c) = refl
not_closed rest (in_parentheses t ts s) = refl
not_closed rest (one_input f p) = refl
not_closed rest (two_inputs f p q) = refl
not_closed rest (a_call f all ts s) = refl
not_closed rest (with_sign Plus t ts o) = refl
not_closed rest (with_sign Minus t ts o) = refl
not_closed rest (with_percent t ts s) = ap after_close (append_assoc ts (percent_mark ∷ []) rest) ∙ not_closed (percent_mark ∷ rest) s
not_closed rest (tighter k t ts s) = not_closed rest s
not_closed rest (joined k op l r ls rs e s u) = ap after_close (append_assoc ls (infix_mark op ∷ rs) rest) ∙ not_closed (infix_mark op ∷ rs ++ rest) s

-- what follows a parameter stops it
stops_after : {all : Trees} {us : List Symbol} (rest : List Symbol) → SpellsMore all us → Stops loosest (us ++ rest)
stops_after rest last_parameter = closed rest
stops_after rest (another_parameter t all ts us s u) = separated ((ts ++ us) ++ rest)

pub operator_here : (k : ℕ) (op : Operator) (ts : List Symbol) → level_of op ≡ k → operator_at k (infix_mark op ∷ ts) ≡ Some (op, ts)
operator_here k op ts e = ap (λ b. cond b (Some (op, ts)) None) (eq-eqb (level_of op) k e)

abbrev Taken : ℕ → ℕ → Tree → List Symbol → Type 0
Taken d k t us = (rest : List Symbol) → Stops k rest → level (expression d) k (us ++ rest) ≡ Some (t, rest)

-- The leftmost operand is found first, and n turns of the loop lead from it to t.
record Turns (d k n : ℕ) (t : Tree) (us rest : List Symbol) : Type 0 where
  first : Tree
  after : List Symbol
  found : level (expression d) k (us ++ rest) ≡ Some (first, after)
  led : (m : ℕ) → chain (level (expression d) k) (suc k) (m + n) first after ≡ chain (level (expression d) k) (suc k) m t rest
  space : length rest + n ≤ length after

abbrev Spine : ℕ → ℕ → Tree → List Symbol → Type 0
Spine d k t us = (n : ℕ) × ((rest : List Symbol) → Stops k rest → Turns d k n t us rest)

-- whatever follows
abbrev Always : ℕ → ℕ → Tree → List Symbol → Type 0
Always d k t us = (rest : List Symbol) → level (expression d) k (us ++ rest) ≡ Some (t, rest)

abbrev Claim : ℕ → ℕ → Tree → List Symbol → Type 0
Claim d zero t us = Always d 0 t us
Claim d (suc zero) t us = Always d 1 t us
Claim d (suc (suc zero)) t us = (rest : List Symbol) → level (expression d) 2 (us ++ rest) ≡ percents t rest
Claim d (suc (suc (suc k))) t us = Spine d (suc (suc k)) t us

-- the loop goes its turns and stops
led_on : (d k n : ℕ) (t : Tree) (us rest : List Symbol) → Turns d (suc (suc k)) n t us rest → operator_at (suc (suc (suc k))) rest ≡ None → level (expression d) (suc (suc (suc k))) (us ++ rest) ≡ Some (t, rest)
unfolding level
led_on d k n t us rest turns h =
    let next = level (expression d) (suc (suc k)) in
    let looser = suc (suc (suc k)) in
    let m = length turns.after - n in
    let all_turns : length turns.after ≡ m + n = omega (arith, turns.space) in
    ap (read_then (λ t rest. chain next looser (length rest) t rest)) turns.found
    ∙ ap (λ j. chain next looser j turns.first turns.after) all_turns ∙ turns.led m ∙ chain_stop next looser m t rest h

taken : (d k : ℕ) (t : Tree) (us : List Symbol) → Claim d k t us → Taken d k t us
taken d zero t us c = λ rest stops. c rest
taken d (suc zero) t us c = λ rest stops. c rest
taken d (suc (suc zero)) t us c = λ rest stops. c rest ∙ percents_stop t rest stops
taken d (suc (suc (suc k))) t us c = λ rest stops. led_on d k c.0 t us rest (c.1 rest stops.0) stops.1

-- an atom doesn't begin with a sign
unsigned : (inner : Parse) (ts : List Symbol) (p : Tree × List Symbol) → atom inner ts ≡ Some p → prefixed (atom inner) ts ≡ Some p
unfolding atom
unsigned inner [] p h = h
unsigned inner (infix_mark op ∷ ts) p h = cc
unsigned inner (x ∷ ts) p h = h

one_operand : (d k : ℕ) (t : Tree) (us : List Symbol) → Taken d k t us → Spine d k t us
one_operand d k t us c = (
  0,
  λ rest stops. record {
    first = t;
    after = rest;
    found = c rest stops;
    led = λ m. let same : m + 0 ≡ m = omega arith in ap (λ j. chain (level (expression d) k) (suc k) j t rest) same;
    space = omega arith;
  },
)

one_line : (d k : ℕ) (t : Tree) (us : List Symbol) → Claim d k t us → Claim d (suc k) t us
unfolding level
one_line d zero t us c = λ rest. unsigned (expression d) (us ++ rest) (t, rest) (c rest)
one_line d (suc zero) t us c = λ rest. ap (read_then percents) (c rest)
one_line d (suc (suc k)) t us c = one_operand d (suc (suc k)) t us (taken d (suc (suc k)) t us c)

-- one more operand
one_more : (d k : ℕ) (op : Operator) (l r : Tree) (ls rs : List Symbol) → level_of op ≡ suc k → Spine d k l ls → Taken d k r rs → Spine d k (binary op l r) (ls ++ infix_mark op ∷ rs)
one_more d k op l r ls rs e left right = (
  suc left.0,
  λ rest stops.
      let next = level (expression d) k in
      let tail : List Symbol = infix_mark op ∷ rs ++ rest in
      let before = left.1 tail (stops_at k op (rs ++ rest) (omega arith)) in
      record {
        first = before.first;
        after = before.after;
        found = ap next (append_assoc ls (infix_mark op ∷ rs) rest) ∙ before.found;
        led = λ m.
            let shift : m + suc left.0 ≡ suc m + left.0 = omega arith in
            let less : suc m - 1 ≡ m = omega arith in
            ap (λ j. chain next (suc k) j before.first before.after) shift ∙ before.led (suc m)
            ∙ chain_more next (suc k) (suc m) l r tail (rs ++ rest) rest op (omega arith) (operator_here (suc k) op (rs ++ rest) e) (right rest stops)
            ∙ ap (λ j. chain next (suc k) j (binary op l r) rest) less;
        space = let longer = length-append rs rest in omega (arith, before.space);
      },
)

joins : (d k : ℕ) (op : Operator) (l r : Tree) (ls rs : List Symbol) → level_of op ≡ suc k → Claim d (suc k) l ls → Taken d k r rs → Claim d (suc k) (binary op l r) (ls ++ infix_mark op ∷ rs)
joins d zero op l r ls rs e left right = absurd (omega (arith, from_powers op))
joins d (suc zero) op l r ls rs e left right = absurd (omega (arith, from_powers op))
joins d (suc (suc k)) op l r ls rs e left right = one_more d (suc (suc k)) op l r ls rs e left right

sign_taken : (d : ℕ) (s : Sign) (t : Tree) (ts : List Symbol) → Claim d 1 t ts → Claim d 1 (signed s t) (sign_mark s ∷ ts)
unfolding level
sign_taken d Plus t ts c rest = ap (signed_read Plus) (c rest)
sign_taken d Minus t ts c rest = ap (signed_read Minus) (c rest)

percent_taken : (d : ℕ) (t : Tree) (ts : List Symbol) → Claim d 2 t ts → Claim d 2 (percent t) (ts ++ percent_mark ∷ [])
percent_taken d t ts c rest = ap (level (expression d) 2) (append_assoc ts (percent_mark ∷ []) rest) ∙ c (percent_mark ∷ rest)

-- parentheses nest one deeper
inner_taken : (d : ℕ) (t : Tree) (us rest : List Symbol) → Taken d loosest t us → Stops loosest rest → expression (suc d) (us ++ rest) ≡ Some (t, rest)
unfolding expression
inner_taken d t us rest c stops = c rest stops

marks_taken : (d : ℕ) (t : Tree) (ts : List Symbol) → Taken d loosest t ts → Always (suc d) 0 (parenthesized t) (open_parenthesis ∷ ts ++ close_parenthesis ∷ [])
unfolding level atom
marks_taken d t ts c rest =
    ap (λ l. read_then (λ u. then_close (parenthesized u)) (expression (suc d) l)) (append_assoc ts (close_parenthesis ∷ []) rest)
    ∙ ap (read_then (λ u. then_close (parenthesized u))) (inner_taken d t ts (close_parenthesis ∷ rest) c (closed rest))

number_taken : (d : ℕ) (x : Number) → Always d 0 (number x) (numeral x ∷ [])
unfolding level atom
number_taken d x rest = refl

cell_taken : (d : ℕ) (r : Reference) → Always d 0 (cell r) (reference r ∷ [])
unfolding level atom
cell_taken d r rest = refl

rectangle_taken : (d : ℕ) (c : Corners) → Always d 0 (rectangle c) (corners c ∷ [])
unfolding level atom
rectangle_taken d c rest = refl

one_taken : (d : ℕ) (f : Reference) (p : Reference × Reference) → Always d 0 (what_if f (p ∷ [])) (what_if_symbols f (pair_symbols p))
unfolding level atom what_if_at pair_at
one_taken d f p rest = refl

two_taken : (d : ℕ) (f : Reference) (p q : Reference × Reference) → Always d 0 (what_if f (p ∷ q ∷ [])) (what_if_symbols f (pair_symbols p ++ pair_symbols q))
unfolding level atom what_if_at pair_at
two_taken d f p q rest = refl

text_taken : (d : ℕ) (s : List ℕ) → Always d 0 (text s) (text_literal s ∷ [])
unfolding level atom
text_taken d s rest = refl

-- ---- calls

abbrev AllTaken : ℕ → Trees → List Symbol → Type 0
AllTaken d all us = (rest : List Symbol) → parameters_at (expression d) (us ++ rest) ≡ Some (all, rest)

abbrev MoreTaken : ℕ → Trees → List Symbol → Type 0
MoreTaken d all us = (n : ℕ) (rest : List Symbol) → length us ≤ n → more_parameters (expression d) n (us ++ rest) ≡ Some (all, rest)

none_taken : (d : ℕ) → AllTaken d no_trees (close_parenthesis ∷ [])
unfolding parameters_at
none_taken d rest = refl

last_taken : (d : ℕ) → MoreTaken d no_trees (close_parenthesis ∷ [])
last_taken d n rest space = more_last (expression d) n (close_parenthesis ∷ rest) rest (omega arith) refl

first_taken : (d : ℕ) (t : Tree) (all : Trees) (ts us : List Symbol) → Spells loosest t ts → SpellsMore all us → Taken d loosest t ts → MoreTaken (suc d) all us → AllTaken (suc d) (more_trees t all) (ts ++ us)
first_taken d t all ts us s u one others rest =
    let tail = us ++ rest in
    ap (parameters_at (expression (suc d))) (append_assoc ts us rest)
    ∙ parameters_first (expression (suc d)) (ts ++ tail) tail t (not_closed tail s) (inner_taken d t ts tail one (stops_after rest u))
    ∙ ap (put_first t) (others (length tail) rest (omega (arith, length-append us rest)))

another_taken : (d : ℕ) (t : Tree) (all : Trees) (ts us : List Symbol) → SpellsMore all us → Taken d loosest t ts → MoreTaken (suc d) all us → MoreTaken (suc d) (more_trees t all) (separator ∷ ts ++ us)
another_taken d t all ts us u one others n rest space =
    let tail = us ++ rest in
    let some : 0 < n = omega arith in
    let least = length-append ts us in
    ap (λ l. more_parameters (expression (suc d)) n (separator ∷ l)) (append_assoc ts us rest)
    ∙ more_again (expression (suc d)) n t (separator ∷ ts ++ tail) (ts ++ tail) tail some refl refl (inner_taken d t ts tail one (stops_after rest u))
    ∙ ap (put_first t) (others (n - 1) rest (omega arith))

call_taken : (d : ℕ) (f : List ℕ) (all : Trees) (ts : List Symbol) → AllTaken d all ts → Always d 0 (call f all) (name f ∷ open_parenthesis ∷ ts)
unfolding level atom
call_taken d f all ts c rest = ap (as_call f) (c rest)

mutual
  claim : {k : ℕ} {t : Tree} {ts : List Symbol} → Spells k t ts → (d : ℕ) → depth t ≤ d → Claim d k t ts
  claim (a_number x) d h = number_taken d x
  claim (a_text s) d h = text_taken d s
  claim (a_cell r) d h = cell_taken d r
  claim (a_rectangle c) d h = rectangle_taken d c
  claim (one_input f p) d h = one_taken d f p
  claim (two_inputs f p q) d h = two_taken d f p q
  claim (in_parentheses t ts s) zero h = absurd (omega arith)
  claim (in_parentheses t ts s) (suc d) h = marks_taken d t ts (taken d loosest t ts (claim s d (omega arith)))
  claim (a_call f all ts s) zero h = absurd (omega arith)
  claim (a_call f all ts s) (suc d) h = call_taken (suc d) f all ts (all_claim s d (omega arith))
  claim (with_sign s t ts o) d h = sign_taken d s t ts (claim o d h)
  claim (with_percent t ts s) d h = percent_taken d t ts (claim s d h)
  claim (tighter k t ts s) d h = one_line d k t ts (claim s d h)
  claim (joined k op l r ls rs e s u) d h = joins d k op l r ls rs e (claim s d (omega arith)) (taken d k r rs (claim u d (omega arith)))

  all_claim : {all : Trees} {ts : List Symbol} → SpellsAll all ts → (d : ℕ) → greatest_depth all ≤ d → AllTaken (suc d) all ts
  all_claim no_parameter d h = none_taken (suc d)
  all_claim (parameters t all ts us s u) d h = first_taken d t all ts us s u (taken d loosest t ts (claim s d (omega arith))) (more_claim u d (omega arith))

  more_claim : {all : Trees} {ts : List Symbol} → SpellsMore all ts → (d : ℕ) → greatest_depth all ≤ d → MoreTaken (suc d) all ts
  more_claim last_parameter d h = last_taken (suc d)
  more_claim (another_parameter t all ts us s u) d h = another_taken d t all ts us u (taken d loosest t ts (claim s d (omega arith))) (more_claim u d (omega arith))

-- what is spelled is what the symbols are read as
pub whole_complete : (d : ℕ) (ts : List Symbol) (t : Tree) → Spells loosest t ts → depth t ≤ d → whole (suc d) ts ≡ Some t
whole_complete d ts t s h =
    let read = inner_taken d t ts [] (taken d loosest t ts (claim s d h)) ended in
    ap (option_and_then (λ p. if_last p.0 p.1)) (ap (expression (suc d)) (sym (append-nil ts)) ∙ read)

-- no symbols spell two trees
pub one_tree : (t u : Tree) (ts : List Symbol) → Spells loosest t ts → Spells loosest u ts → t ≡ u
one_tree t u ts s v =
    let d = max (depth t) (depth u) in
    let e : Some t ≡ Some u = sym (whole_complete d ts t s (omega arith)) ∙ whole_complete d ts u v (omega arith) in
    cc
