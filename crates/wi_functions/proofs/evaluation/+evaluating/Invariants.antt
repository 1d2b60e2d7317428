use Rattle.wi_functions.proofs.Words.{◌≡◌, ◌++◌, ◌+◌, ◌*◌, max, drop, all_of, the_size, arguments_in, arguments, ByAll, values_of, ReferInside}
use Rattle.wi_functions.proofs.evaluation.+evaluating.Given as goal

abbrev pub decreases-all_arguments : goal.decreases-all_arguments
decreases-all_arguments g l = 4 * goal.size-all_arguments g l + 1

abbrev pub decreases-all_values : goal.decreases-all_values
decreases-all_values g l = 4 * goal.size-all_values g l + 1

abbrev pub decreases-binary_value : goal.decreases-binary_value
decreases-binary_value g l = 4 * max (the_size l.left.now) (the_size l.right.now) + 2

abbrev pub decreases-call_value : goal.decreases-call_value
decreases-call_value g l = 4 * goal.size-call_value g l + 3

abbrev pub decreases-lazy_value : goal.decreases-lazy_value
decreases-lazy_value g l = 4 * goal.size-lazy_value g l + 2

abbrev pub decreases-parameter_or : goal.decreases-parameter_or
decreases-parameter_or g l = 4 * goal.size-parameter_or g l + 1

abbrev pub decreases-percent_value : goal.decreases-percent_value
decreases-percent_value g l = 4 * the_size l.inner.now + 1

abbrev pub decreases-signed_value : goal.decreases-signed_value
decreases-signed_value g l = 4 * the_size l.inner.now + 1

abbrev pub decreases-value_of : goal.decreases-value_of
decreases-value_of g l = 4 * the_size l.expr.now

abbrev pub decreases-with_right_operand : goal.decreases-with_right_operand
decreases-with_right_operand g l = 4 * the_size l.right.now + 1

-- the arguments so far and those of the parameters to come are all
abbrev pub invariant-all_arguments-loop-parameter : goal.invariant-all_arguments-loop-parameter
invariant-all_arguments-loop-parameter g l =
    ByAll g.L.Lookup.known_cell g.L.Lookup.known_what_if l.lookup (λ a.
    arguments_in a.cells l.arguments.items ++ arguments (all_of (drop l.parameter-index l.parameters)) a.cells a.what_ifs ≡ arguments (all_of l.parameters) a.cells a.what_ifs)
    × ReferInside l.arguments.items (all_of l.parameters)

-- the values so far and those of the parameters to come are all
abbrev pub invariant-all_values-loop-parameter : goal.invariant-all_values-loop-parameter
invariant-all_values-loop-parameter g l =
    ByAll g.L.Lookup.known_cell g.L.Lookup.known_what_if l.lookup (λ a.
    l.values.items ++ values_of (arguments (all_of (drop l.parameter-index l.parameters)) a.cells a.what_ifs) ≡ values_of (arguments (all_of l.parameters) a.cells a.what_ifs))
