use Rattle.std.specs.Prelude.{◌==◌, ℕ, ◌+◌, ◌-◌, Option, Some, None, if◌then◌else◌}
use Rattle.wi_values.specs.declared.value.Value.{Value}
use Rattle.wi_values.specs.Address.{Area}
use Rattle.wi_arguments.proofs.Passing.{Passed}
use Rattle.wi_formula_cases.proofs.cells.KnownCellsLookup.next_value.Given as goal

abbrev pub of_two : Value → Value → ℕ → Option Value
of_two a1 b1 a = if a == 0 then Some a1 else if a == 1 then Some b1 else None

-- how many turns are left at most
abbrev turns_left : Area → Option ℕ → ℕ
turns_left r None = 0
turns_left r (Some a) = ((r.last + 1) - a) + 1

abbrev pub invariant-loop-ahead : goal.invariant-loop-ahead
invariant-loop-ahead l = Passed (of_two l.self.a1 l.self.b1) l.area l.fn.from l.ahead

abbrev pub decreases-loop-ahead : goal.decreases-loop-ahead
decreases-loop-ahead l = turns_left l.area l.ahead
