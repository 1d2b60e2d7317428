-- What the functions of the parser answer.
use Rattle.std.specs.Prelude.{◌≡◌, List, [], ◌∷◌, Option, Some, None, option_map, Result, Ok, Err}
use Rattle.wi_parser.specs.declared.expr.Expr.{Expr}
use Rattle.wi_parser.specs.declared.fault.ParseFault.{ParseFault}
use Rattle.wi_parser.specs.declared.fault.ParseFault.TheVariants.{TooLong, OutOfSheet, NumberRange, TooDeep, Syntax, Memory}
use Rattle.wi_parser.specs.Tree.{Tree, Trees, more_trees}
use Rattle.wi_parser.specs.Symbol.{Symbol}
use Rattle.wi_parser.specs.Inner.Reader.{Read, ReadAll}
use Rattle.wi_parser.specs.View.{tree_of, all_of}

-- Syntax where nothing to be read is found, or Memory, which says nothing of that; no other fault
abbrev pub Fails : {A : Type 0} → ParseFault → Option A → Type 0
Fails TooLong found = ⊥
Fails OutOfSheet found = ⊥
Fails NumberRange found = ⊥
Fails TooDeep found = ⊥
Fails Syntax found = found ≡ None
Fails Memory found = Unit {0}

-- what a function that reads some symbols answers and leaves
abbrev pub Finds : Read → Result Expr ParseFault → List Symbol → Type 0
Finds found (Ok e) new = found ≡ Some (tree_of e, new)
Finds found (Err e) new = Fails e found

-- what a function that reads the parameters of a call behind others answers and leaves
abbrev pub FindsMore : ReadAll → Result (Unit {0}) ParseFault → List Expr → List Symbol → Type 0
FindsMore found (Ok u) all new = found ≡ Some (all_of all, new)
FindsMore found (Err e) all new = Fails e found

-- the trees of expressions, and then others
abbrev pub before : List Expr → Trees → Trees
before [] ts = ts
before (e ∷ es) ts = more_trees (tree_of e) (before es ts)

-- what was found, with the trees of expressions before it
abbrev pub put_before : List Expr → ReadAll → ReadAll
put_before es r = option_map (λ p. (before es p.0, p.1)) r

-- what a function that reads all symbols answers
abbrev pub FindsWhole : Option Tree → Result Expr ParseFault → Type 0
FindsWhole found (Ok e) = found ≡ Some (tree_of e)
FindsWhole found (Err e) = Fails e found
