use Rattle.wi_edit_log.proofs.Words.{arith, is_within_one}
use Rattle.wi_edit_log.proofs.Shared.{of_all, of_none, of_one_more}
use Rattle.wi_edit_log.proofs.search.first_in_each.Goals as goal

pub loop-one-init : goal.loop-one-init
loop-one-init c = of_none (is_within_one c.args.many.now)

pub loop-one-preserved : goal.loop-one-preserved
loop-one-preserved c =
    of_one_more (is_within_one c.args.many.now) c.args.few.now c.loop-one.one-index c.one-item.result c.loop-one.first c.first_in_others.result c.sooner-first.result
    (omega arith) c.one-item.is c.sooner-first.ensures c.loop-one.invariant c.first_in_others.ensures

pub returns : goal.returns
returns c = of_all (is_within_one c.args.many.now) c.args.few.now c.loop-one.one-index c.loop-one.first (omega arith) c.loop-one.invariant
