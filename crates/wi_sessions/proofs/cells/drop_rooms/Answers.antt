use Rattle.wi_sessions.proofs.Words.{arith}
use Rattle.wi_sessions.proofs.WordLemmas.{dropped_all, dropped_more, nothing_dropped}
use Rattle.wi_sessions.proofs.cells.drop_rooms.Goals as goal

pub loop-at-init : goal.loop-at-init
loop-at-init c = record { order = c.requires; less = nothing_dropped c.args.words.now.entries c.args.bit }

pub loop-at-preserved : goal.loop-at-preserved
loop-at-preserved c = record {
  order = c.clear_one.ensures.order;
  less = dropped_more c.args.staged.now c.loop-at.at-index c.loop-at-item.result c.args.bit c.common.result c.args.words.now.entries c.loop-at.words.entries c.clear_one.new.words.entries
      (omega arith) c.loop-at-item.is c.common.ensures c.loop-at.invariant.less c.clear_one.ensures.less;
}

pub returns-clause-order : goal.returns-clause-order
returns-clause-order c = c.loop-at.invariant.order

pub returns-clause-less : goal.returns-clause-less
returns-clause-less c = dropped_all c.args.staged.now c.loop-at.at-index c.args.bit c.args.words.now.entries c.loop-at.words.entries (omega arith) c.loop-at.invariant.less
