use Rattle.wi_engine.proofs.Words.{rules}
use Rattle.wi_engine.proofs.filled.FirstTouched.{passed_over}
use Rattle.wi_engine.proofs.known.KnownLookup.next_value.Goals as goal

pub loop-ahead-preserved : goal.loop-ahead-preserved
loop-ahead-preserved c =
    let k = c.args.self.now in
    passed_over k.store.now.sheet k.world.now k.found.now c.args.area c.args.from c.in-Some.start _ c.last.result c.next_touched.result c.loop-ahead.ahead c.successor-ahead.result
    c.loop-ahead.invariant c.in-Some.is c.last.ensures c.next_touched.ensures.inside c.next_touched.ensures.nothing_before (search rules) (search rules)
    c.successor-ahead.ensures.some c.successor-ahead.ensures.none
