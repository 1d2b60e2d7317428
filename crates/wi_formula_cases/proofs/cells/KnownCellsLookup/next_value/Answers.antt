use Rattle.std.proofs.Common.{rules, ◌≡◌, true}
use Rattle.wi_values.specs.Address.{is_within}
use Rattle.wi_arguments.specs.Filled.{is_known_empty}
use Rattle.wi_arguments.proofs.Passing.{passed_one}
use Rattle.wi_formula_cases.proofs.cells.KnownCellsLookup.next_value.Goals.{else-contains-via-then-contains+else-not-is_known_empty, else-contains-via-else-contains}
use Rattle.wi_formula_cases.proofs.cells.KnownCellsLookup.next_value.Invariants.{of_two}
use Rattle.wi_formula_cases.proofs.cells.KnownCellsLookup.next_value.Goals as goal

pub loop-ahead-preserved : goal.loop-ahead-preserved
loop-ahead-preserved c =
    let known = of_two c.args.self.now.a1 c.args.self.now.b1 in
    let passed : is_within c.args.area c.in-Some.at ≡ true → is_known_empty (known c.in-Some.at) ≡ true =
    (elim c.else-contains.branch [ else-contains-via-then-contains+else-not-is_known_empty w ↦ λ i. search rules | else-contains-via-else-contains w ↦ λ i. search rules ]) in
    passed_one known c.args.area c.args.from c.in-Some.at c.last.result c.loop-ahead.ahead c.successor-ahead.result c.loop-ahead.invariant c.in-Some.is c.last.ensures passed c.successor-ahead.ensures.some c.successor-ahead.ensures.none
