use Rattle.wi_sessions.proofs.Words.{arith}
use Rattle.wi_sessions.proofs.WordLemmas.{cleared_all, cleared_more, nothing_cleared}
use Rattle.wi_sessions.proofs.cells.clear_each.Goals as goal

pub loop-at-init : goal.loop-at-init
loop-at-init c = record { order = c.requires; less = nothing_cleared c.args.words.now.entries c.args.bits }

pub loop-at-preserved : goal.loop-at-preserved
loop-at-preserved c = record {
  order = c.clear_one.ensures.order;
  less = cleared_more c.args.cells.now c.loop-at.at-index c.at-item.result c.args.bits c.args.words.now.entries c.loop-at.words.entries c.clear_one.new.words.entries
      (omega arith) c.at-item.is c.loop-at.invariant.less c.clear_one.ensures.less;
}

pub returns-clause-order : goal.returns-clause-order
returns-clause-order c = c.loop-at.invariant.order

pub returns-clause-less : goal.returns-clause-less
returns-clause-less c = cleared_all c.args.cells.now c.loop-at.at-index c.args.bits c.args.words.now.entries c.loop-at.words.entries (omega arith) c.loop-at.invariant.less
