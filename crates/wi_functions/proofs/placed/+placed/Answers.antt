use Rattle.wi_functions.proofs.Words.{◌≡◌, Value, List, IfOk, sym, ◌∙◌, subst, arith, rules, applied_to_values}
use Rattle.wi_functions.proofs.PlacedValues.{lazy_seen, values_seen, placed_there, placed_missing, more_placed, all_placed_values}
use Rattle.wi_functions.proofs.placed.+placed.Goals as goal

pub value_of_placed-returns-in-Lazy : goal.value_of_placed-returns-in-Lazy
value_of_placed-returns-in-Lazy t c =
    subst (λ (x : Value). IfOk c.lazy_placed.result (λ v. v ≡ x)) (sym (lazy_seen _ _ _ _ c.args.values.now c.in-Lazy.is c.deref-in-Lazy.ensures.value)) c.lazy_placed.ensures

pub value_of_placed-returns-in-Values : goal.value_of_placed-returns-in-Values
value_of_placed-returns-in-Values t c =
    subst (λ (x : Value). IfOk c.values_placed.result (λ v. v ≡ x)) (sym (values_seen _ _ _ _ c.args.values.now c.in-Values.is c.deref-in-Values.ensures.value)) c.values_placed.ensures

pub parameter_or-returns-in-Some : goal.parameter_or-returns-in-Some
parameter_or-returns-in-Some t c =
    let is = c.in-Some.ensures.lookup in
    subst (λ (x : Value). IfOk c.value_of_placed.result (λ v. v ≡ x)) (placed_there c.args.parameters.now c.args.place c.in-Some.parameter.now c.args.default c.args.values.now is.3.0 is.1) c.value_of_placed.ensures

pub parameter_or-returns-in-None : goal.parameter_or-returns-in-None
parameter_or-returns-in-None t c = placed_missing c.args.parameters.now c.args.place c.args.default c.args.values.now c.in-None.ensures.lookup.3

pub values_placed-loop-parameter-preserved : goal.values_placed-loop-parameter-preserved
values_placed-loop-parameter-preserved t c =
    more_placed c.args.parameters.now c.loop-parameter.parameter-index c.parameter-item.result c.loop-parameter.taken.items c.push.new.self.items c.in_ok-value_of_placed.field-0 c.args.values.now c.loop-parameter-test.true c.parameter-item.is c.in_ok-push.ensures.items c.in_ok-value_of_placed.ensures c.loop-parameter.invariant

pub values_placed-returns : goal.values_placed-returns
values_placed-returns t c =
    let all = all_placed_values c.args.parameters.now c.loop-parameter.parameter-index c.loop-parameter.taken.items c.args.values.now (omega (arith, c.loop-parameter-test.false)) c.loop-parameter.invariant in
    subst (λ (xs : List Value). IfOk c.value_of_values.result (λ v. v ≡ applied_to_values c.args.function xs)) (c.deref.ensures.value ∙ all) c.value_of_values.ensures

pub binary_placed-returns : goal.binary_placed-returns
binary_placed-returns t c = search rules
