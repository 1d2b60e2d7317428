use Rattle.wi_fold_functions.proofs.Words.{drop}
use Rattle.wi_fold_functions.proofs.Arguments.{Rest}
use Rattle.wi_fold_functions.proofs.folding.fold_arguments.Given as goal

abbrev pub invariant-loop-argument : goal.invariant-loop-argument
invariant-loop-argument g l =
    Rest g.F.Fold.step (g.L.Lookup.known_cell l.lookup) l.arguments l.fn.start l.folding.so_far (drop l.argument-index l.arguments)
