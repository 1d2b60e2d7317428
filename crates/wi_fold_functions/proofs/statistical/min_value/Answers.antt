use Rattle.wi_fold_functions.proofs.Words.{refl, None, min_value, sequence_of, ◌>>=◌, fold_until_error, least_with, number_chosen}
use Rattle.wi_fold_functions.proofs.Arguments.{of_arguments}
use Rattle.wi_fold_functions.proofs.Choices.{min_is}
use Rattle.wi_fold_functions.proofs.statistical.min_value.Goals as goal

pub returns-clause-done : goal.returns-clause-done
returns-clause-done g c =
    of_arguments (g.L.Lookup.known_cell c.args.lookup.now) c.args.arguments.now (λ xs. fold_until_error least_with (record { least = None }) (sequence_of xs) >>= (λ t. number_chosen t.least)) min_value c.fold_arguments.result (λ xs. min_is xs (record { least = None }) refl) c.fold_arguments.ensures.done
