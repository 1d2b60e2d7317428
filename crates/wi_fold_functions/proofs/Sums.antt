-- What SUM and PRODUCT make of the items.
use Rattle.wi_fold_functions.proofs.Words.{◌≡◌, List, refl, ap, ◌∙◌, Number, Argument, addition, multiplication, zero_number, one_number, sum_value, product_value, sequence_of, number_fold, ◌>>=◌, fold_until_error, Product, Sum, calculated_with, sum_with, product_with}
use Rattle.wi_fraction.specs.Number as numbers
use Rattle.wi_fold_functions.proofs.Steps.{fold_held}

pub sum_is : (args : List Argument) (s : Sum) → s.total ≡ zero_number → (fold_until_error sum_with s (sequence_of args) >>= (λ t. Number t.total)) ≡ sum_value args
sum_is args s e =
    fold_held {A = numbers.Number} {B = Sum} (λ t. t.total) (λ x. record { total = x }) (calculated_with addition) (λ x. Number x) (λ x. refl) (λ t. refl) s (sequence_of args)
    ∙ ap (λ (x : numbers.Number). number_fold addition x (sequence_of args) >>= (λ y. Number y)) e

pub product_is : (args : List Argument) (s : Product) → s.product ≡ one_number → (fold_until_error product_with s (sequence_of args) >>= (λ t. Number t.product)) ≡ product_value args
product_is args s e =
    fold_held {A = numbers.Number} {B = Product} (λ t. t.product) (λ x. record { product = x }) (calculated_with multiplication) (λ x. Number x) (λ x. refl) (λ t. refl) s (sequence_of args)
    ∙ ap (λ (x : numbers.Number). number_fold multiplication x (sequence_of args) >>= (λ y. Number y)) e
