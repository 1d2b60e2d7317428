use Rattle.wi_fold_functions.proofs.Words.{refl, None, or_value, sequence_of, ◌>>=◌, fold_until_error, any_with, logical_chosen}
use Rattle.wi_fold_functions.proofs.Arguments.{of_arguments}
use Rattle.wi_fold_functions.proofs.Choices.{or_is}
use Rattle.wi_fold_functions.proofs.logical.or_value.Goals as goal

pub returns-clause-done : goal.returns-clause-done
returns-clause-done g c =
    of_arguments (g.L.Lookup.known_cell c.args.lookup.now) c.args.arguments.now (λ xs. fold_until_error any_with (record { any = None }) (sequence_of xs) >>= (λ t. logical_chosen t.any)) or_value c.fold_arguments.result (λ xs. or_is xs (record { any = None }) refl) c.fold_arguments.ensures.done
