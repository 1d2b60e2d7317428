use Rattle.wi_fold_functions.proofs.Words.{refl, None, and_value, sequence_of, ◌>>=◌, fold_until_error, all_with, logical_chosen}
use Rattle.wi_fold_functions.proofs.Arguments.{of_arguments}
use Rattle.wi_fold_functions.proofs.Choices.{and_is}
use Rattle.wi_fold_functions.proofs.logical.and_value.Goals as goal

pub returns-clause-done : goal.returns-clause-done
returns-clause-done g c =
    of_arguments (g.L.Lookup.known_cell c.args.lookup.now) c.args.arguments.now (λ xs. fold_until_error all_with (record { all = None }) (sequence_of xs) >>= (λ t. logical_chosen t.all)) and_value c.fold_arguments.result (λ xs. and_is xs (record { all = None }) refl) c.fold_arguments.ensures.done
