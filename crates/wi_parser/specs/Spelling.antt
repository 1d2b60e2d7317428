-- The symbols that spell a tree.
use Rattle.std.specs.Prelude.{◌≡◌, List, [], ◌∷◌, ◌++◌}
use Rattle.std.specs.List.{flat_map}
use Rattle.wi_parser.specs.Tree.{Tree, Trees, number, text, cell, rectangle, parenthesized, signed, percent, binary, what_if, call, no_trees, more_trees}
use Rattle.wi_parser.specs.Symbol.{Symbol, numeral, text_literal, reference, corners, open_parenthesis, close_parenthesis, separator, infix_mark, sign_mark, percent_mark, what_if_name, name}
use Rattle.wi_parser.specs.Grammar.{IsGrammatical}
use Rattle.wi_parser.specs.Inner.Levels.{loosest, Spells}

abbrev mutual
  pub spelling : Tree → List Symbol
  spelling (number x) = numeral x ∷ []
  spelling (text s) = text_literal s ∷ []
  spelling (cell r) = reference r ∷ []
  spelling (rectangle c) = corners c ∷ []
  spelling (parenthesized t) = open_parenthesis ∷ spelling t ++ close_parenthesis ∷ []
  spelling (signed s t) = sign_mark s ∷ spelling t
  spelling (percent t) = spelling t ++ percent_mark ∷ []
  spelling (binary op l r) = spelling l ++ infix_mark op ∷ spelling r
  spelling (what_if f pairs) =
      what_if_name ∷ open_parenthesis ∷ reference f
      ∷ flat_map (λ p. separator ∷ reference p.0 ∷ separator ∷ reference p.1 ∷ []) pairs ++ close_parenthesis ∷ []
  spelling (call f ts) = name f ∷ open_parenthesis ∷ spelling_of_all ts

  pub spelling_of_all : Trees → List Symbol
  spelling_of_all no_trees = close_parenthesis ∷ []
  spelling_of_all (more_trees t ts) = spelling t ++ spelling_of_more ts

  pub spelling_of_more : Trees → List Symbol
  spelling_of_more no_trees = close_parenthesis ∷ []
  spelling_of_more (more_trees t ts) = separator ∷ spelling t ++ spelling_of_more ts

abbrev pub IsSpelling : Tree → List Symbol → Type 0
IsSpelling t ts = IsGrammatical t × (ts ≡ spelling t)

-- some symbols spell the tree, and these are its spelling
abbrev pub HasSpelling : Tree → Type 0
HasSpelling t = Spells loosest t (spelling t)
