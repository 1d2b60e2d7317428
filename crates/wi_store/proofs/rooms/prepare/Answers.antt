use Rattle.wi_store.proofs.Words.{arith, rules}
use Rattle.wi_store.proofs.ChangeLemmas.{brought_more}
use Rattle.wi_store.proofs.rooms.prepare.Goals as goal

pub loop-change-preserved : goal.loop-change-preserved
loop-change-preserved c =
    brought_more c.loop-change.made.items c.push.new.self.items _ c.loop-change.changes c.loop-change.change-index c.change-item.result _
    (omega arith) (search rules) c.loop-change.invariant
