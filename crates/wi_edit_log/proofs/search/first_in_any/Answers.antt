use Rattle.wi_edit_log.proofs.Words.{arith}
use Rattle.wi_edit_log.proofs.Shared.{in_none, in_one_more, in_one_all}
use Rattle.wi_edit_log.proofs.search.first_in_any.Goals as goal

pub loop-other-init : goal.loop-other-init
loop-other-init c = in_none c.args.one

pub loop-other-preserved : goal.loop-other-preserved
loop-other-preserved c =
    in_one_more c.args.one c.args.others.now c.loop-other.other-index c.other-item.result c.loop-other.first c.first_in_both.result c.sooner-first.result
    (omega arith) c.other-item.is c.sooner-first.ensures c.loop-other.invariant c.first_in_both.ensures

pub returns : goal.returns
returns c = in_one_all c.args.one c.args.others.now c.loop-other.other-index c.loop-other.first (omega arith) c.loop-other.invariant
