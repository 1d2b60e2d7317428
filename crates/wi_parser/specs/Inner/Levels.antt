-- Which symbols spell which tree, by the levels of the grammar (OpenFormula, "Expression Syntax"). A law ties it to what
-- grammatical trees are spelled as.
use Rattle.std.specs.Prelude.{◌≡◌, ℕ, suc, List, [], ◌∷◌, ◌++◌}
use Rattle.wi_fraction.specs.Number.{Number}
use Rattle.wi_parser.specs.declared.expr.Corners.{Corners}
use Rattle.wi_parser.specs.declared.expr.Operator.{Operator}
use Rattle.wi_parser.specs.declared.expr.Reference.{Reference}
use Rattle.wi_parser.specs.declared.expr.Sign.{Sign}
use Rattle.wi_parser.specs.Tree.{Tree, number, cell, rectangle, parenthesized, signed, percent, binary, what_if, Trees, text, call, no_trees, more_trees}
use Rattle.wi_parser.specs.Grammar.{level_of}
use Rattle.wi_parser.specs.Inner.WhatIf.{pair_symbols, what_if_symbols}
use Rattle.wi_parser.specs.Symbol.{Symbol, numeral, reference, corners, open_parenthesis, close_parenthesis, separator, infix_mark, sign_mark, percent_mark, text_literal, name}

-- the level of a whole formula
abbrev pub loosest : ℕ
loosest = 7

mutual
  -- The symbols spell the tree by level k: 0 Atom, 1 Prefix, 2 Percent, 3 Power, 4 Product, 5 Sum, 6 Concat, 7 Compare.
  pub data Spells : ℕ → Tree → List Symbol → Type 0 where
    a_number : (x : Number) → Spells 0 (number x) (numeral x ∷ [])
    a_text : (s : List ℕ) → Spells 0 (text s) (text_literal s ∷ [])
    a_cell : (r : Reference) → Spells 0 (cell r) (reference r ∷ [])
    a_rectangle : (c : Corners) → Spells 0 (rectangle c) (corners c ∷ [])
    in_parentheses : (t : Tree) (ts : List Symbol) → Spells loosest t ts → Spells 0 (parenthesized t) (open_parenthesis ∷ ts ++ close_parenthesis ∷ [])
    -- a formula cell, and one input or two
    one_input : (f : Reference) (p : Reference × Reference) → Spells 0 (what_if f (p ∷ [])) (what_if_symbols f (pair_symbols p))
    two_inputs : (f : Reference) (p q : Reference × Reference) → Spells 0 (what_if f (p ∷ q ∷ [])) (what_if_symbols f (pair_symbols p ++ pair_symbols q))
    -- the name of a function, and its parameters in parentheses
    a_call : (f : List ℕ) (all : Trees) (ts : List Symbol) → SpellsAll all ts → Spells 0 (call f all) (name f ∷ open_parenthesis ∷ ts)
    -- a sign before an operand, which may have one too
    with_sign : (s : Sign) (t : Tree) (ts : List Symbol) → Spells 1 t ts → Spells 1 (signed s t) (sign_mark s ∷ ts)
    -- a percent mark after an operand, which may have one too
    with_percent : (t : Tree) (ts : List Symbol) → Spells 2 t ts → Spells 2 (percent t) (ts ++ percent_mark ∷ [])
    -- what a tighter level spells
    tighter : (k : ℕ) (t : Tree) (ts : List Symbol) → Spells k t ts → Spells (suc k) t ts
    -- an operator of the level between two operands, of which the left may have one too
    joined : (k : ℕ) (op : Operator) (l r : Tree) (ls rs : List Symbol) → level_of op ≡ suc k → Spells (suc k) l ls → Spells k r rs
        → Spells (suc k) (binary op l r) (ls ++ infix_mark op ∷ rs)

  -- the symbols spell parameters and the parenthesis that closes
  pub data SpellsAll : Trees → List Symbol → Type 0 where
    no_parameter : SpellsAll no_trees (close_parenthesis ∷ [])
    parameters : (t : Tree) (all : Trees) (ts us : List Symbol) → Spells loosest t ts → SpellsMore all us → SpellsAll (more_trees t all) (ts ++ us)

  -- what follows a parameter: others, each after a separator, and the parenthesis that closes
  pub data SpellsMore : Trees → List Symbol → Type 0 where
    last_parameter : SpellsMore no_trees (close_parenthesis ∷ [])
    another_parameter : (t : Tree) (all : Trees) (ts us : List Symbol) → Spells loosest t ts → SpellsMore all us
        → SpellsMore (more_trees t all) (separator ∷ ts ++ us)
