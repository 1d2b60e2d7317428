use Rattle.wi_fold_functions.proofs.Words.{◌∙◌, Number, sum_value, sequence_of, ◌>>=◌, fold_until_error, sum_with}
use Rattle.wi_fold_functions.proofs.Arguments.{of_arguments}
use Rattle.wi_fold_functions.proofs.Sums.{sum_is}
use Rattle.wi_fold_functions.proofs.mathematical.sum_value.Goals as goal

pub returns-clause-done : goal.returns-clause-done
returns-clause-done g c =
    of_arguments (g.L.Lookup.known_cell c.args.lookup.now) c.args.arguments.now (λ xs. fold_until_error sum_with (record { total = c.of.result }) (sequence_of xs) >>= (λ t. Number t.total)) sum_value c.fold_arguments.result (λ xs. sum_is xs (record { total = c.of.result }) (c.of.ensures ∙ c.zero.ensures)) c.fold_arguments.ensures.done
