use Rattle.wi_engine.proofs.Words.{ap, list_any, nat_cmp, contains, next_is_first}
use Rattle.wi_engine.specs.Inner.Plans.{is_unsettled}
use Rattle.wi_engine.proofs.planning.has_unsettled.Goals as goal

pub loop-ahead-init : goal.loop-ahead-init
loop-ahead-init c =
    ap (list_any (is_unsettled c.args.store.now.sheet (contains nat_cmp c.args.settled.now))) (next_is_first c.args.store.now.sheet c.args.area c.next_within-ahead.result c.next_within-ahead.ensures.some c.next_within-ahead.ensures.none)
