-- What each function makes of the items so far, and with one more.
use Rattle.std.specs.Prelude.{not, ◌&&◌, ◌||◌, ℕ, Bool, Option, Some, None, is_some, Result, Ok}
use Rattle.wi_fraction.specs.Number as numbers
use Rattle.wi_values.specs.declared.value.ErrorKind.{ErrorKind}
use Rattle.wi_values.specs.declared.value.ErrorKind.TheVariants.{BadValue}
use Rattle.wi_values.specs.declared.value.Value.{Value}
use Rattle.wi_values.specs.declared.value.Value.TheVariants.{Number, Logical, Fault}
use Rattle.wi_standard_functions.specs.Arithmetic.{addition, multiplication, division, whole_number}
use Rattle.wi_standard_functions.specs.Convert.{zero_number}
use Rattle.wi_standard_functions.specs.Information.{is_empty_value, is_number_value}
use Rattle.wi_standard_functions.specs.Sequence.{Item, number_of_item, logical_of_item, value_of_item}
use Rattle.wi_standard_functions.specs.Inner.Named.{smaller_number, greater_number, with_number}
use Rattle.wi_standard_functions.specs.Steps.{◌>>=◌, and_then}
use Rattle.wi_value_functions.specs.Inner.Counts.{counted}
use Rattle.wi_fold_functions.specs.declared.information.FilledCount.{FilledCount}
use Rattle.wi_fold_functions.specs.declared.information.NumberCount.{NumberCount}
use Rattle.wi_fold_functions.specs.declared.logical.AllTrue.{AllTrue}
use Rattle.wi_fold_functions.specs.declared.logical.AnyTrue.{AnyTrue}
use Rattle.wi_fold_functions.specs.declared.mathematical.Product.{Product}
use Rattle.wi_fold_functions.specs.declared.mathematical.Sum.{Sum}
use Rattle.wi_fold_functions.specs.declared.statistical.Greatest.{Greatest}
use Rattle.wi_fold_functions.specs.declared.statistical.Least.{Least}
use Rattle.wi_fold_functions.specs.declared.statistical.Average.{Average}

-- ---- numbers calculated one after another

-- what is calculated with the number of one more item
abbrev pub calculated_with : (numbers.Number → numbers.Number → Result numbers.Number ErrorKind) → numbers.Number → Item → Result numbers.Number ErrorKind
calculated_with calculate x item = and_then (with_number calculate x) (number_of_item item)

abbrev pub sum_with : Sum → Item → Result Sum ErrorKind
sum_with s item = and_then (λ x. Ok (record { total = x })) (calculated_with addition s.total item)

abbrev pub product_with : Product → Item → Result Product ErrorKind
product_with s item = and_then (λ x. Ok (record { product = x })) (calculated_with multiplication s.product item)

-- ---- one chosen of those that count

-- what is chosen so far, with one more that counts, or none
abbrev pub chosen : {B : Type 0} → (B → B → B) → Option B → Option B → Option B
chosen choose before None = before
chosen choose None (Some y) = Some y
chosen choose (Some x) (Some y) = Some (choose x y)

-- what is chosen with one more item
abbrev pub chosen_with : {B : Type 0} → (Item → Result (Option B) ErrorKind) → (B → B → B) → Option B → Item → Result (Option B) ErrorKind
chosen_with counts choose before item = and_then (λ found. Ok (chosen choose before found)) (counts item)

abbrev pub least_with : Least → Item → Result Least ErrorKind
least_with s item = and_then (λ x. Ok (record { least = x })) (chosen_with number_of_item smaller_number s.least item)

abbrev pub greatest_with : Greatest → Item → Result Greatest ErrorKind
greatest_with s item = and_then (λ x. Ok (record { greatest = x })) (chosen_with number_of_item greater_number s.greatest item)

abbrev pub all_with : AllTrue → Item → Result AllTrue ErrorKind
all_with s item = and_then (λ x. Ok (record { all = x })) (chosen_with logical_of_item ◌&&◌ s.all item)

abbrev pub any_with : AnyTrue → Item → Result AnyTrue ErrorKind
any_with s item = and_then (λ x. Ok (record { any = x })) (chosen_with logical_of_item ◌||◌ s.any item)

-- the number that was chosen, and of none 0
abbrev pub number_chosen : Option numbers.Number → Value
number_chosen None = Number zero_number
number_chosen (Some x) = Number x

-- the truth value that was chosen: of none there is no result
abbrev pub logical_chosen : Option Bool → Value
logical_chosen None = Fault BadValue
logical_chosen (Some b) = Logical b

-- ---- counts

abbrev pub numbers_with : NumberCount → Item → Result NumberCount ErrorKind
numbers_with s item = Ok (record { numbers = counted (is_number_value (value_of_item item)) s.numbers })

abbrev pub filled_with : FilledCount → Item → Result FilledCount ErrorKind
filled_with s item = Ok (record { filled = counted (not (is_empty_value (value_of_item item))) s.filled })

-- ---- a mean

abbrev pub mean_with : Average → Item → Result Average ErrorKind
mean_with s item =
    and_then (λ found. and_then (λ x. Ok (record { total = x; count = counted (is_some found) s.count })) (with_number addition s.total found)) (number_of_item item)

-- a total divided by a count
abbrev pub mean_of : numbers.Number → ℕ → Result numbers.Number ErrorKind
mean_of total count = and_then (λ n. division total n) (whole_number count)

abbrev pub mean_value : Average → Value
mean_value s = mean_of s.total s.count >>= (λ x. Number x)
