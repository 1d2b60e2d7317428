use Rattle.wi_sessions.proofs.Words.{arith, rules}
use Rattle.wi_sessions.proofs.WordLemmas.{no_room_cleared, rooms_all, rooms_more}
use Rattle.wi_sessions.proofs.cells.clear_staged.Goals as goal

pub loop-at-init : goal.loop-at-init
loop-at-init c = record { order = c.requires; less = no_room_cleared c.args.words.now.entries }

pub loop-at-preserved : goal.loop-at-preserved
loop-at-preserved c = record {
  order = c.clear_one.ensures.order;
  less = rooms_more c.args.staged.now c.loop-at.at-index c.loop-at-item.result c.args.words.now.entries c.loop-at.words.entries c.clear_one.new.words.entries
      (omega arith) c.loop-at-item.is c.loop-at.invariant.less (search rules);
}

pub returns-clause-order : goal.returns-clause-order
returns-clause-order c = c.loop-at.invariant.order

pub returns-clause-less : goal.returns-clause-less
returns-clause-less c = rooms_all c.args.staged.now c.loop-at.at-index c.args.words.now.entries c.loop-at.words.entries (omega arith) c.loop-at.invariant.less
