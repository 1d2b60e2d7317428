-- A tree nests no deeper than the parentheses of its symbols.
use Rattle.wi_parser.proofs.Words.{◌≡◌, ℕ, suc, ◌+◌, ◌-◌, ◌≤◌, List, [], ◌∷◌, ◌++◌, ap, arith, append_assoc, append-nil, max, Tree, Trees, Symbol, numeral, reference, corners, open_parenthesis, close_parenthesis, separator, infix_mark, percent_mark, what_if_name, bad_token, text_literal, name, loosest, Spells, a_number, a_cell, a_rectangle, in_parentheses, one_input, two_inputs, with_sign, with_percent, tighter, joined, SpellsAll, SpellsMore, a_text, a_call, no_parameter, parameters, last_parameter, another_parameter, depth, greatest_depth, deepest}

pub least : (h : ℕ) (ts : List Symbol) → h ≤ deepest h ts
least h [] = omega arith
least h (numeral x ∷ ts) = least h ts
least h (text_literal s ∷ ts) = least h ts
least h (reference r ∷ ts) = least h ts
least h (corners c ∷ ts) = least h ts
least h (open_parenthesis ∷ ts) = omega (arith, least (suc h) ts)
least h (close_parenthesis ∷ ts) = omega arith
least h (separator ∷ ts) = least h ts
least h (infix_mark op ∷ ts) = least h ts
least h (percent_mark ∷ ts) = least h ts
least h (what_if_name ∷ ts) = least h ts
least h (name f ∷ ts) = least h ts
least h (bad_token e ∷ ts) = least h ts

-- from h open parentheses on, the symbols before rest reach d more, and no less than rest does
record Reaches (d h : ℕ) (ts rest : List Symbol) : Type 0 where
  own : h + d ≤ deepest h (ts ++ rest)
  others : deepest h rest ≤ deepest h (ts ++ rest)

-- parentheses that open and close with nothing nested between
closed : (h : ℕ) (rest : List Symbol) → (h ≤ deepest (suc h) (close_parenthesis ∷ rest)) × (deepest h rest ≤ deepest (suc h) (close_parenthesis ∷ rest))
closed h rest =
    let less : suc h - 1 ≡ h = omega arith in
    (omega arith, omega (arith, ap (λ j. deepest j rest) less))

-- the same inside a parenthesis that is open and that the symbols close
record Encloses (d h : ℕ) (ts rest : List Symbol) : Type 0 where
  own : suc h + d ≤ deepest (suc h) (ts ++ rest)
  others : deepest h rest ≤ deepest (suc h) (ts ++ rest)

enclosing : (h : ℕ) (rest : List Symbol) → Encloses 0 h (close_parenthesis ∷ []) rest
enclosing h rest = let less : suc h - 1 ≡ h = omega arith in record { own = omega arith; others = omega (arith, ap (λ j. deepest j rest) less) }

-- a parameter and what follows it
enclosing_one : (d e h : ℕ) (ts us rest : List Symbol) → Reaches d (suc h) ts (us ++ rest) → Encloses e h us rest → Encloses (max d e) h (ts ++ us) rest
enclosing_one d e h ts us rest one others =
    let same = ap (deepest (suc h)) (append_assoc ts us rest) in
    record { own = omega (arith, one.own, one.others, others.own, same); others = omega (arith, one.others, others.others, same) }

mutual
  reaches : {k : ℕ} {t : Tree} {ts : List Symbol} → Spells k t ts → (h : ℕ) (rest : List Symbol) → Reaches (depth t) h ts rest
  reaches (a_number x) h rest = record { own = omega (arith, least h rest); others = omega arith }
  reaches (a_text s) h rest = record { own = omega (arith, least h rest); others = omega arith }
  reaches (a_cell r) h rest = record { own = omega (arith, least h rest); others = omega arith }
  reaches (a_rectangle c) h rest = record { own = omega (arith, least h rest); others = omega arith }
  reaches (one_input f p) h rest = let c = closed h rest in record { own = omega (arith, c.0); others = c.1 }
  reaches (two_inputs f p q) h rest = let c = closed h rest in record { own = omega (arith, c.0); others = c.1 }
  reaches (in_parentheses t ts s) h rest =
      let inside = reaches s (suc h) (close_parenthesis ∷ rest) in
      let same = ap (deepest (suc h)) (append_assoc ts (close_parenthesis ∷ []) rest) in
      let less : suc h - 1 ≡ h = omega arith in
      let after = ap (λ j. deepest j rest) less in
      record { own = omega (arith, inside.own, same); others = omega (arith, inside.others, same, after) }
  reaches (a_call f all ts s) h rest = let inside = all_reach s h rest in record { own = omega (arith, inside.own); others = inside.others }
  reaches (with_sign s t ts o) h rest = let inside = reaches o h rest in record { own = inside.own; others = inside.others }
  reaches (with_percent t ts s) h rest =
      let inside = reaches s h (percent_mark ∷ rest) in
      let same = ap (deepest h) (append_assoc ts (percent_mark ∷ []) rest) in
      record { own = omega (arith, inside.own, same); others = omega (arith, inside.others, same) }
  reaches (tighter k t ts s) h rest = reaches s h rest
  reaches (joined k op l r ls rs e s u) h rest =
      let left = reaches s h (infix_mark op ∷ rs ++ rest) in
      let right = reaches u h rest in
      let same = ap (deepest h) (append_assoc ls (infix_mark op ∷ rs) rest) in
      record { own = omega (arith, left.own, left.others, right.own, same); others = omega (arith, left.others, right.others, same) }

  all_reach : {all : Trees} {ts : List Symbol} → SpellsAll all ts → (h : ℕ) (rest : List Symbol) → Encloses (greatest_depth all) h ts rest
  all_reach no_parameter h rest = enclosing h rest
  all_reach (parameters t all ts us s u) h rest = enclosing_one _ _ h ts us rest (reaches s (suc h) (us ++ rest)) (more_reach u h rest)

  more_reach : {all : Trees} {ts : List Symbol} → SpellsMore all ts → (h : ℕ) (rest : List Symbol) → Encloses (greatest_depth all) h ts rest
  more_reach last_parameter h rest = enclosing h rest
  more_reach (another_parameter t all ts us s u) h rest =
      let r = enclosing_one _ _ h ts us rest (reaches s (suc h) (us ++ rest)) (more_reach u h rest) in
      record { own = r.own; others = r.others }

pub depth-deepest : (t : Tree) (ts : List Symbol) → Spells loosest t ts → depth t ≤ deepest 0 ts
depth-deepest t ts s = let r = reaches s 0 [] in omega (arith, r.own, ap (deepest 0) (append-nil ts))
