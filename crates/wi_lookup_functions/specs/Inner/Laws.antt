-- What Empty does to a criterion, to a count and to a sum.
use Rattle.std.specs.Prelude.{◌≡◌, ℕ, Bool, false, Option, Result, if◌then◌else◌}
use Rattle.std.proofs.Common.{ap, refl}
use Rattle.wi_fraction.specs.Number.{Number}
use Rattle.wi_values.specs.Address.{Area}
use Rattle.wi_values.specs.declared.value.Value.{Value}
use Rattle.wi_values.specs.declared.value.Value.TheVariants.{Empty}
use Rattle.wi_value_functions.specs.Inner.Counts.{counted}
use Rattle.wi_value_functions.specs.declared.no_value.NoValue.{NoValue}
use Rattle.wi_value_functions.specs.declared.no_value.Stop.{Stop}
use Rattle.wi_lookup_functions.specs.declared.criterion.Criterion.{Criterion}
use Rattle.wi_lookup_functions.specs.declared.criterion.Relation.{Relation}
use Rattle.wi_lookup_functions.specs.declared.criterion.Relation.TheVariants.{Equal, Unequal, Less, AtMost, Greater, AtLeast}
use Rattle.wi_lookup_functions.specs.Inner.Meeting.{is_met, relation_of, EmptyMeetsNone}
use Rattle.wi_lookup_functions.specs.Inner.Sums.{place_there, with_met_known, with_place}

-- Empty meets none
pub empty_meets_none : EmptyMeetsNone
empty_meets_none c = at c.relation
  where
    at : (r : Relation) → relation_of r c.operand Empty ≡ false
    at Equal = refl
    at Unequal = refl
    at Less = refl
    at AtMost = refl
    at Greater = refl
    at AtLeast = refl

-- and so it is not counted
pub empty_not_counted : (c : Criterion) (n : ℕ) → counted (is_met c Empty) n ≡ n
empty_not_counted c n = ap (λ (b : Bool). counted b n) (empty_meets_none c)

-- nor is anything added there
pub empty_not_summed : (known : ℕ → Option Value) (c : Criterion) (r s : Area) (t : Result Number (NoValue (Stop ℕ))) (a : ℕ) → with_met_known known c r s t a Empty ≡ t
empty_not_summed known c r s t a = ap (λ (b : Bool). if b then with_place known t a Empty (place_there r s a) else t) (empty_meets_none c)
