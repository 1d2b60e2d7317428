-- The levels of the grammar spell the grammatical trees, each as its spelling.
use Rattle.wi_parser.proofs.Words.{◌≡◌, ◌↔◌, ℕ, zero, suc, ◌-◌, ◌≤◌, Bool, true, false, nat_le, List, [], ◌∷◌, refl, sym, subst, arith, nat_tests, Operator, Power, level_of, tree_level, IsGrammatical, AreGrammatical, loosest, Spells, SpellsAll, SpellsMore, a_number, a_text, a_cell, a_rectangle, in_parentheses, one_input, two_inputs, a_call, with_sign, with_percent, tighter, joined, no_parameter, parameters, last_parameter, another_parameter, spelling, spelling_of_all, spelling_of_more, IsSpelling, Symbol, Tree, Trees, number, text, cell, rectangle, parenthesized, signed, percent, binary, what_if, call, no_trees, more_trees}
use Rattle.wi_parser.proofs.Marks.{from_powers}
use Rattle.wi_parser.proofs.OneSpelling.{spelled}

-- ---- what a level spells is grammatical, and of that level or a tighter one

mutual
  grammatical : {k : ℕ} {t : Tree} {ts : List Symbol} → Spells k t ts → (tree_level t ≤ k) × IsGrammatical t
  grammatical (a_number x) = (omega arith, tt)
  grammatical (a_text s) = (omega arith, tt)
  grammatical (a_cell r) = (omega arith, tt)
  grammatical (a_rectangle c) = (omega arith, tt)
  grammatical (in_parentheses t ts s) = (omega arith, (grammatical s).1)
  grammatical (one_input f p) = (omega arith, (omega arith, omega arith))
  grammatical (two_inputs f p q) = (omega arith, (omega arith, omega arith))
  grammatical (a_call f all ts s) = (omega arith, all_grammatical s)
  grammatical (with_sign s t ts o) = (omega arith, grammatical o)
  grammatical (with_percent t ts s) = (omega arith, grammatical s)
  grammatical (tighter k t ts s) = let g = grammatical s in (omega (arith, g.0), g.1)
  grammatical (joined k op l r ls rs e s u) =
      let g = grammatical s in
      let h = grammatical u in
      (omega (arith, e), (omega (arith, e, g.0), g.1, omega (arith, e, h.0), h.1))

  all_grammatical : {all : Trees} {ts : List Symbol} → SpellsAll all ts → AreGrammatical all
  all_grammatical no_parameter = tt
  all_grammatical (parameters t all ts us s u) = ((grammatical s).1, more_grammatical u)

  more_grammatical : {all : Trees} {ts : List Symbol} → SpellsMore all ts → AreGrammatical all
  more_grammatical last_parameter = tt
  more_grammatical (another_parameter t all ts us s u) = ((grammatical s).1, more_grammatical u)

-- ---- each grammatical tree is spelled by its level, and so by each looser one

level_within : (op : Operator) → level_of op ≤ loosest
level_within Power = omega arith
level_within op = omega arith

tree_within : (t : Tree) → tree_level t ≤ loosest
tree_within (binary op l r) = level_within op
tree_within (signed s t) = omega arith
tree_within (percent t) = omega arith
tree_within t = omega arith

looser : (k j : ℕ) (t : Tree) (ts : List Symbol) → j ≤ k → Spells j t ts → Spells k t ts
looser zero j t ts h s = let e : j ≡ zero = omega (arith, h) in subst (λ i. Spells i t ts) e s
looser (suc k) j t ts h s = by (nat_le j k) refl (λ l. looser k j t ts l s)
  where
    by : (b : Bool) → nat_le j k ≡ b → (j ≤ k → Spells k t ts) → Spells (suc k) t ts
    by true e next = let l : j ≤ k = grind (arith, nat_tests, e) in tighter k t ts (next l)
    by false e next = let f : j ≡ suc k = grind (arith, nat_tests, e, h) in subst (λ i. Spells i t ts) f s

any_level : (t : Tree) → Spells (tree_level t) t (spelling t) → Spells loosest t (spelling t)
any_level t s = looser loosest (tree_level t) t (spelling t) (tree_within t) s

mutual
  its_level : (t : Tree) → IsGrammatical t → Spells (tree_level t) t (spelling t)
  its_level (number x) g = a_number x
  its_level (text s) g = a_text s
  its_level (cell r) g = a_cell r
  its_level (rectangle c) g = a_rectangle c
  its_level (parenthesized t) g = in_parentheses t (spelling t) (any_level t (its_level t g))
  its_level (signed s t) g = with_sign s t (spelling t) (looser 1 (tree_level t) t (spelling t) g.0 (its_level t g.1))
  its_level (percent t) g = with_percent t (spelling t) (looser 2 (tree_level t) t (spelling t) g.0 (its_level t g.1))
  its_level (binary op l r) g =
      let k = level_of op - 1 in
      let e : level_of op ≡ suc k = omega (arith, from_powers op) in
      let left : tree_level l ≤ suc k = omega (arith, e, g.0) in
      let right : tree_level r ≤ k = omega (arith, e, g.2) in
      subst (λ n. Spells n (binary op l r) (spelling (binary op l r))) (sym e)
      (joined k op l r (spelling l) (spelling r) e (looser (suc k) (tree_level l) l (spelling l) left (its_level l g.1)) (looser k (tree_level r) r (spelling r) right (its_level r g.3)))
  its_level (what_if f []) g = absurd (omega (arith, g.0))
  its_level (what_if f (p ∷ [])) g = one_input f p
  its_level (what_if f (p ∷ q ∷ [])) g = two_inputs f p q
  its_level (what_if f (p ∷ q ∷ x ∷ xs)) g = absurd (omega (arith, g.1))
  its_level (call f ts) g = a_call f ts (spelling_of_all ts) (all_lines ts g)

  all_lines : (ts : Trees) → AreGrammatical ts → SpellsAll ts (spelling_of_all ts)
  all_lines no_trees g = no_parameter
  all_lines (more_trees t ts) g = parameters t ts (spelling t) (spelling_of_more ts) (any_level t (its_level t g.0)) (more_lines ts g.1)

  more_lines : (ts : Trees) → AreGrammatical ts → SpellsMore ts (spelling_of_more ts)
  more_lines no_trees g = last_parameter
  more_lines (more_trees t ts) g = another_parameter t ts (spelling t) (spelling_of_more ts) (any_level t (its_level t g.0)) (more_lines ts g.1)

-- the levels spell what is grammatical as its spelling, and nothing else
pub spelling_exactly : (t : Tree) (ts : List Symbol) → IsSpelling t ts ↔ Spells loosest t ts
spelling_exactly t ts = (λ s. subst (Spells loosest t) (sym s.1) (any_level t (its_level t s.0)), λ s. ((grammatical s).1, spelled s))
