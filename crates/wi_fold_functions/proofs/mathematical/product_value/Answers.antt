use Rattle.wi_fold_functions.proofs.Words.{Number, product_value, sequence_of, ◌>>=◌, fold_until_error, product_with}
use Rattle.wi_fold_functions.proofs.Arguments.{of_arguments}
use Rattle.wi_fold_functions.proofs.Sums.{product_is}
use Rattle.wi_fold_functions.proofs.mathematical.product_value.Goals as goal

pub returns-clause-done : goal.returns-clause-done
returns-clause-done g c =
    of_arguments (g.L.Lookup.known_cell c.args.lookup.now) c.args.arguments.now (λ xs. fold_until_error product_with (record { product = c.one.result }) (sequence_of xs) >>= (λ t. Number t.product)) product_value c.fold_arguments.result (λ xs. product_is xs (record { product = c.one.result }) c.one.ensures) c.fold_arguments.ensures.done
