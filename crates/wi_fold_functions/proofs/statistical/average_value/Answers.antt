use Rattle.wi_fold_functions.proofs.Words.{refl, ◌∙◌, average_value, sequence_of, ◌>>=◌, fold_until_error, mean_with, mean_value}
use Rattle.wi_fold_functions.proofs.Arguments.{of_arguments}
use Rattle.wi_fold_functions.proofs.Counting.{average_is}
use Rattle.wi_fold_functions.proofs.statistical.average_value.Goals as goal

pub returns-clause-done : goal.returns-clause-done
returns-clause-done g c =
    of_arguments (g.L.Lookup.known_cell c.args.lookup.now) c.args.arguments.now (λ xs. fold_until_error mean_with (record { total = c.of.result; count = 0 }) (sequence_of xs) >>= (λ t. mean_value t)) average_value c.fold_arguments.result (λ xs. average_is xs (record { total = c.of.result; count = 0 }) (c.of.ensures ∙ c.zero.ensures) refl) c.fold_arguments.ensures.done
