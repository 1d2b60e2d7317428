-- A level reads an operand, and then operators with their right operands: those of its tightest level first, or all as they come.
use Rattle.wi_parser.proofs.Words.{◌≡◌, ℕ, zero, suc, ◌-◌, ◌<◌, ◌≤◌, nat_le, Bool, true, false, cond, List, [], ◌∷◌, length, Option, Some, None, refl, sym, ap, ◌∙◌, ⊎_elim, arith, length-append, cases_lt, ne_eqb, lt-leb, leb-false, Operator, Tree, binary, Symbol, infix_mark, level_of, Read, Parse, read_then, operator_at, operator_within, chain, chain_step, level, expression}
use Rattle.wi_parser.proofs.Marks.{operator-length, from_powers}
use Rattle.wi_parser.proofs.Turns.{chain_stop, chain_fail, chain_more}
use Rattle.wi_parser.proofs.Sound.{line_sound, expression_sound}
use Rattle.wi_parser.proofs.Complete.{operator_here}

-- ---- one after another

then_then : (f g : Tree → Parse) (r : Read) → read_then g (read_then f r) ≡ read_then (λ t rest. read_then g (f t rest)) r
then_then f g None = refl
then_then f g (Some p) = refl

then_nothing : (r : Read) → r ≡ read_then (λ t rest. Some (t, rest)) r
then_nothing None = refl
then_nothing (Some p) = refl

then_same : (f g : Tree → Parse) (r : Read) → ((t : Tree) (rest : List Symbol) → r ≡ Some (t, rest) → f t rest ≡ g t rest) → read_then f r ≡ read_then g r
then_same f g None same = refl
then_same f g (Some p) same = same p.0 p.1 refl

-- ---- how many turns a loop may take

-- no more is left than was given
abbrev Shortens : Parse → Type 0
Shortens next = (ts : List Symbol) (t : Tree) (rest : List Symbol) → next ts ≡ Some (t, rest) → length rest ≤ length ts

line_shortens : (d k : ℕ) → Shortens (level (expression d) k)
line_shortens d k ts t rest h =
    let taken = line_sound (expression d) (expression_sound d) k ts t rest h in
    let parts = ap length taken.2 ∙ length-append taken.0 rest in
    omega (arith, parts)

-- turns above the number of symbols change nothing
chain_space : (next : Parse) → Shortens next → (k n m : ℕ) (left : Tree) (ts : List Symbol) → length ts ≤ n → length ts ≤ m → chain next k n left ts ≡ chain next k m left ts
unfolding chain
chain_space next short k n m left [] h e = chain_stop next k n left [] refl ∙ sym (chain_stop next k m left [] refl)
chain_space next short k zero m left (x ∷ ts) h e = absurd (omega arith)
chain_space next short k (suc n) zero left (x ∷ ts) h e = absurd (omega arith)
chain_space next short k (suc n) (suc m) left (x ∷ ts) h e = at_operator (λ t rest less least. chain_space next short k n m t rest less least) (operator_at k (x ∷ ts)) refl
  where
    at_operator : ((t : Tree) (rest : List Symbol) → length rest ≤ n → length rest ≤ m → chain next k n t rest ≡ chain next k m t rest) → (o : Option (Operator × List Symbol)) → operator_at k (x ∷ ts) ≡ o
        → chain_step next (chain next k n) left (x ∷ ts) o ≡ chain_step next (chain next k m) left (x ∷ ts) o
    at_operator again None is = refl
    at_operator again (Some p) is =
        let taken = operator-length k (x ∷ ts) p.1 p.0 is in
        then_same (λ t rest. chain next k n (binary p.0 left t) rest) (λ t rest. chain next k m (binary p.0 left t) rest) (next p.1)
        (λ t rest found. let less = short p.1 t rest found in again (binary p.0 left t) rest (omega arith) (omega arith))

-- ---- the operators of several levels

-- the operators of the level above k
abbrev loop : Parse → ℕ → Tree → Parse
loop inner k t ts = chain (level inner k) (suc k) (length ts) t ts

-- The operators of the levels up to l after an operand, those of tighter levels first.
abbrev pub loops : Parse → ℕ → Tree → Parse
loops inner zero t ts = Some (t, ts)
loops inner (suc zero) t ts = Some (t, ts)
loops inner (suc (suc zero)) t ts = Some (t, ts)
loops inner (suc (suc (suc k))) t ts = read_then (loop inner (suc (suc k))) (loops inner (suc (suc k)) t ts)

-- a level is an operand with the operators of its levels
pub line_loops : (inner : Parse) (l : ℕ) (ts : List Symbol) → 2 ≤ l → level inner l ts ≡ read_then (loops inner l) (level inner 2 ts)
unfolding level
line_loops inner zero ts h = absurd (omega arith)
line_loops inner (suc zero) ts h = absurd (omega arith)
line_loops inner (suc (suc zero)) ts h = then_nothing (level inner 2 ts)
line_loops inner (suc (suc (suc k))) ts h =
    ap (read_then (loop inner (suc (suc k)))) (line_loops inner (suc (suc k)) ts (omega arith))
    ∙ then_then (loops inner (suc (suc k))) (loop inner (suc (suc k))) (level inner 2 ts)

no_cond : {A : Type 0} (b : Bool) (x : A) → cond b (Some x) None ≡ None → b ≡ false
no_cond true x h = cc
no_cond false x h = refl

none_at : (l k : ℕ) (ts : List Symbol) → k ≤ l → operator_within l ts ≡ None → operator_at k ts ≡ None
none_at l k [] less h = refl
none_at l k (infix_mark op ∷ ts) less h =
    let above = leb-false (level_of op) l (no_cond (nat_le (level_of op) l) (op, ts) h) in
    ap (λ b. cond b (Some (op, ts)) None) (ne_eqb (level_of op) k (λ e. omega arith))
none_at l k (s ∷ ts) less h = refl

none_within : (l : ℕ) (op : Operator) (us : List Symbol) → l < level_of op → operator_within l (infix_mark op ∷ us) ≡ None
none_within l op us above = ap (λ b. cond b (Some (op, us)) None) (lt-leb (level_of op) l above)

-- Where no operator of the levels up to k stands next, those up to l read none.
pub loops_stop : (inner : Parse) (k l : ℕ) (t : Tree) (ts : List Symbol) → l ≤ k → operator_within k ts ≡ None → loops inner l t ts ≡ Some (t, ts)
loops_stop inner k zero t ts less h = refl
loops_stop inner k (suc zero) t ts less h = refl
loops_stop inner k (suc (suc zero)) t ts less h = refl
loops_stop inner k (suc (suc (suc l))) t ts less h =
    ap (read_then (loop inner (suc (suc l)))) (loops_stop inner k (suc (suc l)) t ts (omega arith) h)
    ∙ chain_stop (level inner (suc (suc l))) (suc (suc (suc l))) (length ts) t ts (none_at k (suc (suc (suc l))) ts less h)

-- an operator that stands next, without and with a right operand
module _ (d : ℕ) (op : Operator) (left : Tree) (us : List Symbol) where
  here : (l : ℕ) → l < level_of op → loops (expression d) l left (infix_mark op ∷ us) ≡ Some (left, infix_mark op ∷ us)
  here l above = loops_stop (expression d) l l left (infix_mark op ∷ us) (omega arith) (none_within l op us above)

  pub loops_fail : (l : ℕ) → level_of op ≤ l → level (expression d) (level_of op - 1) us ≡ None → loops (expression d) l left (infix_mark op ∷ us) ≡ None
  loops_fail zero less none = absurd (omega (arith, from_powers op))
  loops_fail (suc zero) less none = absurd (omega (arith, from_powers op))
  loops_fail (suc (suc zero)) less none = absurd (omega (arith, from_powers op))
  loops_fail (suc (suc (suc k))) less none =
      let next = loop (expression d) (suc (suc k)) in
      ⊎_elim
      (λ above.
      let at_it : level_of op ≡ suc (suc (suc k)) = omega arith in
      let below : level_of op - 1 ≡ suc (suc k) = omega arith in
      ap (read_then next) (here (suc (suc k)) above)
      ∙ chain_fail (level (expression d) (suc (suc k))) (suc (suc (suc k))) (length (infix_mark op ∷ us)) left (infix_mark op ∷ us) us op (omega arith)
      (operator_here (suc (suc (suc k))) op us at_it) (ap (λ j. level (expression d) j us) (sym below) ∙ none))
      (λ within. ap (read_then next) (loops_fail (suc (suc k)) within none))
      (cases_lt (suc (suc k)) (level_of op))

  pub loops_more : (l : ℕ) (right : Tree) (rest : List Symbol) → level_of op ≤ l → level (expression d) (level_of op - 1) us ≡ Some (right, rest) → operator_within (level_of op - 1) rest ≡ None
      → loops (expression d) l left (infix_mark op ∷ us) ≡ loops (expression d) l (binary op left right) rest
  loops_more zero right rest less found ended = absurd (omega (arith, from_powers op))
  loops_more (suc zero) right rest less found ended = absurd (omega (arith, from_powers op))
  loops_more (suc (suc zero)) right rest less found ended = absurd (omega (arith, from_powers op))
  loops_more (suc (suc (suc k))) right rest less found ended =
      let tighter = level (expression d) (suc (suc k)) in
      let next = loop (expression d) (suc (suc k)) in
      let ts = infix_mark op ∷ us in
      let whole = binary op left right in
      ⊎_elim
      (λ above.
      let at_it : level_of op ≡ suc (suc (suc k)) = omega arith in
      let below : level_of op - 1 ≡ suc (suc k) = omega arith in
      let same : tighter us ≡ Some (right, rest) = ap (λ j. level (expression d) j us) (sym below) ∙ found in
      let short = line_shortens d (suc (suc k)) us right rest same in
      ap (read_then next) (here (suc (suc k)) above)
      ∙ chain_more tighter (suc (suc (suc k))) (length ts) left right ts us rest op (omega arith) (operator_here (suc (suc (suc k))) op us at_it) same
      ∙ chain_space tighter (line_shortens d (suc (suc k))) (suc (suc (suc k))) (length ts - 1) (length rest) whole rest (omega arith) (omega arith)
      ∙ ap (read_then next) (sym (loops_stop (expression d) (level_of op - 1) (suc (suc k)) whole rest (omega arith) ended)))
      (λ within. ap (read_then next) (loops_more (suc (suc k)) right rest within found ended))
      (cases_lt (suc (suc k)) (level_of op))
