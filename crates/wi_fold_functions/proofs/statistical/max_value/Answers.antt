use Rattle.wi_fold_functions.proofs.Words.{refl, None, max_value, sequence_of, ◌>>=◌, fold_until_error, greatest_with, number_chosen}
use Rattle.wi_fold_functions.proofs.Arguments.{of_arguments}
use Rattle.wi_fold_functions.proofs.Choices.{max_is}
use Rattle.wi_fold_functions.proofs.statistical.max_value.Goals as goal

pub returns-clause-done : goal.returns-clause-done
returns-clause-done g c =
    of_arguments (g.L.Lookup.known_cell c.args.lookup.now) c.args.arguments.now (λ xs. fold_until_error greatest_with (record { greatest = None }) (sequence_of xs) >>= (λ t. number_chosen t.greatest)) max_value c.fold_arguments.result (λ xs. max_is xs (record { greatest = None }) refl) c.fold_arguments.ensures.done
