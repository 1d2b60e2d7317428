use Rattle.wi_fold_functions.proofs.Words.{refl, from_cell, go_on}
use Rattle.wi_fold_functions.proofs.Arguments.{reference_taken}
use Rattle.wi_fold_functions.proofs.folding.Folding.take_argument.Goals as goal

pub returns-in_ok-take_cells-in-Reference-clause-taken : goal.returns-in_ok-take_cells-in-Reference-clause-taken
returns-in_ok-take_cells-in-Reference-clause-taken g c =
    λ cells agrees. reference_taken g.F.Fold.step cells c.in-Reference.area c.args.argument.now c.args.self.now c.take_cells.new.taker (λ s. s.so_far) (λ s _ v. record { so_far = go_on g.F.Fold.step s.so_far (from_cell v) }) (λ s k v. refl) c.in-Reference.is
    (c.in_ok-take_cells-in-Reference.ensures.taken cells agrees)
