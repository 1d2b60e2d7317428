-- Which values are found, and where, as MATCH, the look-ups and criteria find them: on every list, sorted or not, by
-- this project's rule.
use Rattle.std.specs.Prelude.{ℕ, pos, ◌==◌, Bool, false, true, ◌&&◌, int_lt, List, map, filter, position, Option, None, if◌then◌else◌}
use Rattle.std.specs.List.{enumerate_from, last_or}
use Rattle.std.specs.Ordering.{int_eq, is_eq, is_le, is_ge}
use Rattle.std.specs.declared.cmp.Ordering.{Ordering}
use Rattle.wi_fraction.specs.Number as numbers
use Rattle.wi_values.specs.declared.value.Value.{Value}
use Rattle.wi_values.specs.declared.value.Value.TheVariants.{Empty, Number, Fault}
use Rattle.wi_standard_functions.specs.Comparison.{rank, value_order}
use Rattle.wi_standard_functions.specs.Convert.{zero_number}

-- Empty cells and errors match nothing
abbrev pub can_be_found : Value → Bool
can_be_found Empty = false
can_be_found (Fault e) = false
can_be_found v = true

abbrev pub same_kind : Value → Value → Bool
same_kind v w = can_be_found v && can_be_found w && rank v == rank w

-- an Empty sought is 0
abbrev pub sought_for : Value → Value
sought_for Empty = Number zero_number
sought_for v = v

abbrev pub is_match : (Ordering → Bool) → Value → Value → Bool
is_match test sought v = same_kind v sought && test (value_order v sought)

abbrev pub last_position : (Value → Bool) → List Value → Option ℕ
last_position test vs = last_or None (map (λ p. p.0) (filter (λ p. test p.1) (enumerate_from 0 vs)))

-- Type 0 finds the first equal one, above 0 the last at most the one sought, below 0 the last at least that.
abbrev pub match_position : numbers.Number → Value → List Value → Option ℕ
match_position match_type sought vs =
    if int_eq match_type.num (pos 0) then position (is_match is_eq sought) vs else
    if int_lt match_type.num (pos 0) then last_position (is_match is_ge sought) vs else
    last_position (is_match is_le sought) vs
