use Rattle.wi_sessions.proofs.Words.{ap, arith, keys_of}
use Rattle.wi_sessions.proofs.PendingLemmas.{all_forgotten, cleared_same}
use Rattle.wi_sessions.proofs.CellLemmas.{none_in_order}
use Rattle.wi_sessions.proofs.pending.forget.Goals as goal

pub returns-then-count-eq1-clause-order : goal.returns-then-count-eq1-clause-order
returns-then-count-eq1-clause-order c = none_in_order _ (ap (λ es. keys_of es) c.clear.ensures)

pub returns-then-count-eq1-clause-less : goal.returns-then-count-eq1-clause-less
returns-then-count-eq1-clause-less c =
    all_forgotten c.args.words.now.entries c.clear.new.self.entries c.args.all.now c.args.i c.args.count c.clear.ensures c.if-count-eq1.true c.requires.within c.requires.all c.requires.none

pub bit_of-requires : goal.bit_of-requires
bit_of-requires c = omega (arith, c.requires.within, c.requires.few)

pub returns-clause-less : goal.returns-clause-less
returns-clause-less c = cleared_same c.args.all.now c.bit_of.result c.args.i c.args.words.now.entries c.clear_each.new.words.entries c.bit_of.ensures c.clear_each.ensures.less
