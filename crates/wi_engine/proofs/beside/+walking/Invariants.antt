use Rattle.wi_parser.specs.View.{all_of}
use Rattle.wi_engine.specs.Inner.Sure.{IsOneSure, IsListedWith}
use Rattle.wi_engine.proofs.beside.+walking.Given as goal

abbrev pub invariant-push_sure_of_all-loop-expr : goal.invariant-push_sure_of_all-loop-expr
invariant-push_sure_of_all-loop-expr l = IsListedWith l.store.sheet l.frame (IsOneSure (all_of l.exprs)) l.fn.cells.items l.cells.items
