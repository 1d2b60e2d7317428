use Rattle.wi_fold_functions.proofs.Words.{refl, whole_value, count_value, sequence_of, ◌>>=◌, fold_until_error, numbers_with}
use Rattle.wi_fold_functions.proofs.Arguments.{of_arguments}
use Rattle.wi_fold_functions.proofs.Counting.{count_is}
use Rattle.wi_fold_functions.proofs.information.count_value.Goals as goal

pub returns-clause-done : goal.returns-clause-done
returns-clause-done g c =
    of_arguments (g.L.Lookup.known_cell c.args.lookup.now) c.args.arguments.now (λ xs. fold_until_error numbers_with (record { numbers = 0 }) (sequence_of xs) >>= (λ t. whole_value t.numbers)) count_value c.fold_arguments.result (λ xs. count_is xs (record { numbers = 0 }) refl) c.fold_arguments.ensures.done
