use Rattle.wi_engine.proofs.Words.{◌≤◌, length, arith, common_steps, nat_cmp, contains, is_one_of}
use Rattle.wi_engine.proofs.planning.NextPlanned.{one_more_planned, planned_on, whole_plan}
use Rattle.wi_engine.proofs.planning.is_plan.Goals as goal

pub loop-cell-preserved : goal.loop-cell-preserved
loop-cell-preserved c =
    let cells = c.args.cells.now in
    let i = c.loop-cell.cell-index in
    let cell = c.cell-item.result in
    let all = contains nat_cmp c.in_ok-all.all in
    let settled = contains nat_cmp c.loop-cell.settled in
    let h = c.loop-cell.invariant in
    record {
      planned = planned_on c.args.store.now.sheet c.args.inputs.now c.args.root all settled cells i cell c.loop-cell-test.true c.cell-item.is c.in_ok-all.ensures h.settled (rw c.if-not-may_be_next.false at c.may_be_next.ensures) h.planned;
      settled = one_more_planned (is_one_of c.args.inputs.now) settled (contains nat_cmp c.insert.new.self) cells i cell c.loop-cell-test.true c.cell-item.is h.settled c.in_ok-insert.ensures.updates.0;
    }

pub returns : goal.returns
returns c =
    let cells = c.args.cells.now in
    let i = c.loop-cell.cell-index in
    let all : length cells ≤ i = grind (arith, common_steps) in
    whole_plan c.args.store.now.sheet c.args.inputs.now c.args.root (contains nat_cmp c.loop-cell.settled) cells i c.rests_on.result all c.loop-cell.invariant.settled c.loop-cell.invariant.planned c.rests_on.ensures
