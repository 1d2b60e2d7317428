use Rattle.wi_worlds.proofs.Words.{◌≡◌, ℕ, List, take, subst, arith, common_steps}
use Rattle.wi_worlds.proofs.TellSteps.{ToldOf, told_none, told_next, adds_some, adds_same}
use Rattle.wi_worlds.proofs.reaches.put_all.Goals as goal

pub loop-cell-init : goal.loop-cell-init
loop-cell-init c = told_none c.args.at c.args.reached.now.entries c.reserve.new.self.entries c.reserve.ensures.entries.2

pub returns-in_err-reserve-clause-adds : goal.returns-in_err-reserve-clause-adds
returns-in_err-reserve-clause-adds c =
    adds_some c.args.at 0 c.args.cone.now c.args.reached.now.entries c.reserve.new.self.entries
    (told_none c.args.at c.args.reached.now.entries c.reserve.new.self.entries c.reserve.ensures.entries.2).adds

pub loop-cell-preserved : goal.loop-cell-preserved
loop-cell-preserved c =
    told_next c.args.at c.loop-cell.cell-index c.cell-item.result c.args.cone.now c.args.reached.now.entries c.loop-cell.reached.entries c.put.new.reached.entries
    c.loop-cell-test.true c.cell-item.is c.loop-cell.invariant c.in_ok-put.ensures.ok

pub returns-in_err-put-clause-adds : goal.returns-in_err-put-clause-adds
returns-in_err-put-clause-adds c =
    adds_same c.args.at c.args.cone.now c.args.reached.now.entries c.loop-cell.reached.entries c.put.new.reached.entries
    (adds_some c.args.at c.loop-cell.cell-index c.args.cone.now c.args.reached.now.entries c.loop-cell.reached.entries c.loop-cell.invariant.adds) c.in_err-put.ensures.err

pub returns-clause-adds : goal.returns-clause-adds
returns-clause-adds c =
    adds_some c.args.at c.loop-cell.cell-index c.args.cone.now c.args.reached.now.entries c.loop-cell.reached.entries c.loop-cell.invariant.adds

pub returns-clause-all : goal.returns-clause-all
returns-clause-all c =
    let whole : take c.loop-cell.cell-index c.args.cone.now ≡ c.args.cone.now = grind (arith, common_steps) in
    (subst (λ (xs : List ℕ). ToldOf c.args.at xs c.args.reached.now.entries c.loop-cell.reached.entries) whole c.loop-cell.invariant).all
