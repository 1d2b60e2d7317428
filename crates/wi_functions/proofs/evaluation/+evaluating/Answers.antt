use Rattle.wi_functions.proofs.Words.{◌≡◌, ℕ, List, refl, sym, ap, ◌∙◌, subst, arith, rules, err_from_is_err_and, MatchResult-weaker, Value, Expr, the_lemmas, Tree, text, binary, call, binary_seen, call_seen, what_if_seen, leaves, all_leaves, tree_of, all_of, value_or, call_value, applied_to_arguments, applied_to_values, Lazy, References, values_alone, arguments_in, operate, meaning, arguments, IsWanted, values_of, ReferInside, of_tree, of_parameters, mapped, Evaluates, IfMissing, Stop, Want}
use Rattle.wi_arguments.specs.declared.argument.Argument as given
use Rattle.wi_functions.proofs.Asking.{left_asks, right_asks, memory_wants, wanted_too, evaluates_too, made_of, stop_wants}
use Rattle.wi_functions.proofs.Parameters.{value_there, value_missing, asks_there, length_arguments, call_found, more_arguments, more_values, none_left, reference_is, value_is, reference_asks, value_asks, more_refer}
use Rattle.wi_functions.proofs.evaluation.+evaluating.Goals as goal
use Rattle.wi_functions.proofs.evaluation.+evaluating.Goals.{all_arguments-in-Some, all_arguments-in-None+in_ok-value_of-in-None}

-- ---- an expression, by its kind

pub value_of-returns-in-Text : goal.value_of-returns-in-Text
value_of-returns-in-Text g t c =
    let is : tree_of c.args.expr.now ≡ text c.in-Text.text = search (rules, the_lemmas) in
    subst (λ (u : Tree). Evaluates g.L.Lookup.known_cell g.L.Lookup.known_what_if c.args.lookup.now c.text_value.result (of_tree u)) (sym is)
    (MatchResult-weaker c.text_value.result c.text_value.ensures (λ v h a agrees. h) (memory_wants _))

pub value_of-returns-in-Some : goal.value_of-returns-in-Some
value_of-returns-in-Some g t c =
    let op = c.in-Binary.operator in
    let left = tree_of c.deref-in-Binary.result.now.0 in
    let right = tree_of c.deref-in-Some.result.now.1 in
    let is = binary_seen _ _ _ _ _ c.in-Binary.is c.deref-in-Binary.ensures c.deref-in-Some.ensures in
    subst (λ (u : Tree). Evaluates g.L.Lookup.known_cell g.L.Lookup.known_what_if c.args.lookup.now c.with_right_operand.result (of_tree u)) (sym is)
    (evaluates_too g.L.Lookup.known_cell g.L.Lookup.known_what_if c.args.lookup.now (mapped (operate op c.in-Some.x.now) (of_tree right)) (of_tree (binary op left right)) c.with_right_operand.result
    (λ a agrees. ap (λ (x : Value). operate op x (meaning right a.cells a.what_ifs)) (c.in-Some.ensures a agrees)) (right_asks op left right) c.with_right_operand.ensures)

pub value_of-returns-in_default : goal.value_of-returns-in_default
value_of-returns-in_default g t c =
    let is = binary_seen _ _ _ _ _ c.in-Binary.is c.deref-in-Binary-2.ensures c.deref-in-Binary-3.ensures in
    subst (λ (u : Tree). Evaluates g.L.Lookup.known_cell g.L.Lookup.known_what_if c.args.lookup.now c.binary_value.result (of_tree u)) (sym is) c.binary_value.ensures

pub value_of-returns-in-WhatIf : goal.value_of-returns-in-WhatIf
value_of-returns-in-WhatIf g t c =
    let is = what_if_seen _ _ _ _ _ c.in-WhatIf.is c.deref-in-WhatIf.ensures c.deref-in-WhatIf-2.ensures c.deref-in-WhatIf-3.ensures.value in
    subst (λ (u : Tree). Evaluates g.L.Lookup.known_cell g.L.Lookup.known_what_if c.args.lookup.now c.what_if_value.result (of_tree u)) (sym is) c.what_if_value.ensures

pub value_of-returns-in-Call : goal.value_of-returns-in-Call
value_of-returns-in-Call g t c =
    let is = call_seen _ _ _ _ _ c.in-Call.is c.deref-in-Call.ensures c.deref-in-Call-2.ensures c.deref-in-Call-3.ensures.value in
    subst (λ (u : Tree). Evaluates g.L.Lookup.known_cell g.L.Lookup.known_what_if c.args.lookup.now c.call_value.result (of_tree u)) (sym is) c.call_value.ensures

-- ---- two operands

pub binary_value-returns-in_err-x : goal.binary_value-returns-in_err-x
binary_value-returns-in_err-x g t c =
    let p = err_from_is_err_and c.from_residual.result c.from_residual.ensures.1 in
    rw (p.1, p.2) (wanted_too _ _ _ (leaves (tree_of c.args.left.now)) _ (left_asks c.args.operator (tree_of c.args.left.now) (tree_of c.args.right.now)) c.in_err-x.field-0.0 c.in_err-x.ensures)

pub binary_value-returns : goal.binary_value-returns
binary_value-returns g t c =
    let op = c.args.operator in
    let left = tree_of c.args.left.now in
    let right = tree_of c.args.right.now in
    evaluates_too g.L.Lookup.known_cell g.L.Lookup.known_what_if c.args.lookup.now (mapped (operate op c.in_ok-x.x) (of_tree right)) (of_tree (binary op left right)) c.with_right_operand.result
    (λ a agrees. ap (λ (x : Value). operate op x (meaning right a.cells a.what_ifs)) (c.in_ok-x.ensures a agrees)) (right_asks op left right) c.with_right_operand.ensures

pub with_right_operand-returns-in-Some : goal.with_right_operand-returns-in-Some
with_right_operand-returns-in-Some g t c =
    made_of g.L.Lookup.known_cell g.L.Lookup.known_what_if c.args.lookup.now (operate c.args.operator c.args.left.now) c.in-Some.y.now (of_tree (tree_of c.args.right.now)) c.operate.result c.in-Some.ensures c.operate.ensures

pub with_right_operand-returns : goal.with_right_operand-returns
with_right_operand-returns g t c =
    made_of g.L.Lookup.known_cell g.L.Lookup.known_what_if c.args.lookup.now (operate c.args.operator c.args.left.now) c.in_ok-y.y (of_tree (tree_of c.args.right.now)) _ c.in_ok-y.ensures (search rules)

-- ---- all parameters

pub all_arguments-returns-in_err-value_of-in-None-clause-meant : goal.all_arguments-returns-in_err-value_of-in-None-clause-meant
all_arguments-returns-in_err-value_of-in-None-clause-meant g t c =
    let p = err_from_is_err_and c.from_residual.result c.from_residual.ensures.1 in
    rw (p.1, p.2) (wanted_too _ _ _ (leaves (tree_of c.parameter-item.result)) _ (λ w. asks_there c.args.parameters.now c.loop-parameter.parameter-index c.parameter-item.result w c.loop-parameter-test.true c.parameter-item.is) c.in_err-value_of-in-None.field-0.0 c.in_err-value_of-in-None.ensures)

pub all_arguments-loop-parameter-preserved : goal.all_arguments-loop-parameter-preserved
all_arguments-loop-parameter-preserved g t c =
    let es = c.args.parameters.now in
    let i = c.loop-parameter.parameter-index in
    let e = c.parameter-item.result in
    elim c.match-referred.branch [
      | all_arguments-in-Some w ↦ (
        λ a agrees. more_arguments es i e c.loop-parameter.arguments.items c.push.new.self.items c.match-referred.argument a.cells a.what_ifs c.loop-parameter-test.true c.parameter-item.is c.in_ok-push.ensures.items
            (rw w.argument-is (reference_is (tree_of e) w.in-Some.area a.cells a.what_ifs (sym c.referred.ensures ∙ w.in-Some.is))) (c.loop-parameter.invariant.0 a agrees),
        more_refer es i e c.loop-parameter.arguments.items c.push.new.self.items c.match-referred.argument c.loop-parameter-test.true c.parameter-item.is c.in_ok-push.ensures.items
            (rw w.argument-is (λ d r. reference_asks (tree_of e) w.in-Some.area d (sym c.referred.ensures ∙ w.in-Some.is) r)) c.loop-parameter.invariant.1,
      )
      | all_arguments-in-None+in_ok-value_of-in-None w ↦ (
        λ a agrees. more_arguments es i e c.loop-parameter.arguments.items c.push.new.self.items c.match-referred.argument a.cells a.what_ifs c.loop-parameter-test.true c.parameter-item.is c.in_ok-push.ensures.items
            (rw w.argument-is (value_is (tree_of e) w.in_ok-value_of-in-None.field-0 a.cells a.what_ifs (sym c.referred.ensures ∙ w.in-None.is) (w.in_ok-value_of-in-None.ensures a agrees))) (c.loop-parameter.invariant.0 a agrees),
        more_refer es i e c.loop-parameter.arguments.items c.push.new.self.items c.match-referred.argument c.loop-parameter-test.true c.parameter-item.is c.in_ok-push.ensures.items
            (rw w.argument-is (λ d r. value_asks (tree_of e) w.in_ok-value_of-in-None.field-0 d r)) c.loop-parameter.invariant.1,
      )
    ]

pub all_values-returns-in_err-value_of : goal.all_values-returns-in_err-value_of
all_values-returns-in_err-value_of g t c =
    let p = err_from_is_err_and c.from_residual.result c.from_residual.ensures.1 in
    rw (p.1, p.2) (wanted_too _ _ _ (leaves (tree_of c.parameter-item.result)) _ (λ w. asks_there c.args.parameters.now c.loop-parameter.parameter-index c.parameter-item.result w c.loop-parameter-test.true c.parameter-item.is) c.in_err-value_of.field-0.0 c.in_err-value_of.ensures)

pub all_arguments-loop-parameter-init : goal.all_arguments-loop-parameter-init
all_arguments-loop-parameter-init g t c =
    rw c.new-arguments.ensures.items (λ a agrees. refl, λ d r. cc)

pub all_arguments-returns-clause-meant : goal.all_arguments-returns-clause-meant
all_arguments-returns-clause-meant g t c =
    λ a agrees. none_left (λ (es : List Expr). arguments (all_of es) a.cells a.what_ifs) c.args.parameters.now c.loop-parameter.parameter-index (arguments_in a.cells c.loop-parameter.arguments.items) _ refl (omega (arith, c.loop-parameter-test.false)) (c.loop-parameter.invariant.0 a agrees)

pub all_values-loop-parameter-preserved : goal.all_values-loop-parameter-preserved
all_values-loop-parameter-preserved g t c =
    λ a agrees. more_values c.args.parameters.now c.loop-parameter.parameter-index c.parameter-item.result c.loop-parameter.values.items c.push.new.self.items c.in_ok-value_of.field-0 a.cells a.what_ifs c.loop-parameter-test.true c.parameter-item.is c.in_ok-push.ensures.items
    (c.in_ok-value_of.ensures a agrees) (c.loop-parameter.invariant a agrees)

pub all_values-returns : goal.all_values-returns
all_values-returns g t c =
    λ a agrees. none_left (λ (es : List Expr). values_of (arguments (all_of es) a.cells a.what_ifs)) c.args.parameters.now c.loop-parameter.parameter-index c.loop-parameter.values.items _ refl (omega (arith, c.loop-parameter-test.false)) (c.loop-parameter.invariant a agrees)

-- ---- a call

pub call_value-returns-in-Err : goal.call_value-returns-in-Err
call_value-returns-in-Err g t c =
    λ a agrees. let args = arguments (all_of c.args.parameters.now) a.cells a.what_ifs in
    sym (ap (λ (n : List ℕ). call_value n args) (sym c.as_str.ensures) ∙ c.in-Err.ensures.refused args (length_arguments c.args.parameters.now a.cells a.what_ifs))

pub call_value-returns-in-Ok-Lazy : goal.call_value-returns-in-Ok-Lazy
call_value-returns-in-Ok-Lazy g t c =
    let trees = all_of c.args.parameters.now in
    evaluates_too g.L.Lookup.known_cell g.L.Lookup.known_what_if c.args.lookup.now (mapped (applied_to_arguments (Lazy c.in-Ok-Lazy.function)) (of_parameters trees)) (of_tree (call c.args.name.now trees)) c.lazy_value.result
    (λ a agrees. call_found c.args.parameters.now _ _ _ _ a.cells a.what_ifs c.in-Ok-Lazy.ensures.found c.in-Ok-Lazy.field-0-is c.as_str.ensures) (λ w h. h) c.lazy_value.ensures

pub call_value-returns-in-Ok-Values : goal.call_value-returns-in-Ok-Values
call_value-returns-in-Ok-Values g t c =
    λ a agrees. c.in_ok-value_of_values-in-Ok-Values.ensures
    ∙ ap (applied_to_values c.in-Ok-Values.function) (c.deref.ensures.value ∙ c.in_ok-values-in-Ok-Values.ensures a agrees)
    ∙ sym (values_alone c.in-Ok-Values.function (arguments (all_of c.args.parameters.now) a.cells a.what_ifs))
    ∙ call_found c.args.parameters.now _ _ _ _ a.cells a.what_ifs c.in-Ok-Values.ensures.found c.in-Ok-Values.field-0-is c.as_str.ensures

pub call_value-returns-in-Ok : goal.call_value-returns-in-Ok
call_value-returns-in-Ok g t c =
    λ a agrees. c.in-Ok.ensures.done a.cells agrees.cells
    ∙ ap (λ (xs : List given.Argument). applied_to_arguments (References c.in-Ok-References.function) (arguments_in a.cells xs)) c.deref-in-Ok-References.ensures.value
    ∙ ap (applied_to_arguments (References c.in-Ok-References.function)) (c.in_ok-arguments-in-Ok-References.ensures.meant a agrees)
    ∙ call_found c.args.parameters.now _ _ _ _ a.cells a.what_ifs c.in-Ok-References.ensures.found c.in-Ok-References.field-0-is c.as_str.ensures

pub call_value-returns : goal.call_value-returns
call_value-returns g t c =
    let trees = all_of c.args.parameters.now in
    let inside = subst (λ (xs : List given.Argument). ReferInside xs trees) (sym c.deref-in-Ok-References.ensures.value) c.in_ok-arguments-in-Ok-References.ensures.refers in
    subst (λ (s : Stop Want). IfMissing s (IsWanted g.L.Lookup.known_cell g.L.Lookup.known_what_if c.args.lookup.now (all_leaves trees))) (sym c.stopped.ensures)
    (stop_wants _ _ _ c.in-Err-value_of_references.stop c.deref-in-Ok-References.result.now trees c.in-Err-value_of_references.ensures.missing inside)

-- ---- a function that chooses

pub lazy_value-returns-in-Value : goal.lazy_value-returns-in-Value
lazy_value-returns-in-Value g t c =
    λ a agrees. c.in-Value.ensures (arguments (all_of c.args.parameters.now) a.cells a.what_ifs) (length_arguments c.args.parameters.now a.cells a.what_ifs) (c.in_ok-first.ensures a agrees)

pub lazy_value-returns-in-Parameter : goal.lazy_value-returns-in-Parameter
lazy_value-returns-in-Parameter g t c =
    let es = c.args.parameters.now in
    let values = of_parameters (all_of es) in
    evaluates_too g.L.Lookup.known_cell g.L.Lookup.known_what_if c.args.lookup.now (mapped (λ args. value_or c.in-Parameter.default args c.in-Parameter.place) values) (mapped (applied_to_arguments (Lazy c.args.function)) values) c.parameter_or-in-Parameter.result
    (λ a agrees. c.in-Parameter.ensures (arguments (all_of es) a.cells a.what_ifs) (length_arguments es a.cells a.what_ifs) (c.in_ok-first.ensures a agrees)) (λ w h. h) c.parameter_or-in-Parameter.ensures

pub parameter_or-returns-in-Some : goal.parameter_or-returns-in-Some
parameter_or-returns-in-Some g t c =
    let es = c.args.parameters.now in
    let e = c.in-Some.parameter.now in
    let place = c.args.place in
    let is = c.in-Some.ensures.lookup in
    evaluates_too g.L.Lookup.known_cell g.L.Lookup.known_what_if c.args.lookup.now (of_tree (tree_of e)) (mapped (λ args. value_or c.args.default args place) (of_parameters (all_of es))) c.value_of.result
    (λ a agrees. value_there es place e c.args.default a.cells a.what_ifs is.3.0 is.1) (λ w. asks_there es place e w is.3.0 is.1) c.value_of.ensures

pub parameter_or-returns-in-None : goal.parameter_or-returns-in-None
parameter_or-returns-in-None g t c =
    λ a agrees. value_missing c.args.parameters.now c.args.place c.args.default a.cells a.what_ifs c.in-None.ensures.lookup.3
