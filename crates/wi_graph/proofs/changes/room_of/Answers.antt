use Rattle.wi_graph.proofs.Words.{rules}
use Rattle.wi_graph.proofs.Tests.{clash}
use Rattle.wi_graph.proofs.ChangeSteps.{brings_start, brings_one, brings_none, one_idle, one_order, none_order}
use Rattle.wi_graph.proofs.changes.room_of.Goals as goal

pub returns-then-reads_this-clause-brings : goal.returns-then-reads_this-clause-brings
returns-then-reads_this-clause-brings c =
    brings_none c.args.rooms.now c.args.cell c.args.content.now c.in_ok-room.room c.new.result.items c.new.ensures.items c.in_ok-room.ensures (c.reads_this.ensures.0 c.if-reads_this.true)

pub returns-then-reads_this-clause-no_idle : goal.returns-then-reads_this-clause-no_idle
returns-then-reads_this-clause-no_idle c = (brings_start c.args.rooms.now c.new.result.items c.new.ensures.items).1

pub returns-then-reads_this-clause-order : goal.returns-then-reads_this-clause-order
returns-then-reads_this-clause-order c = none_order c.new.result.items c.new.ensures.items

pub returns-clause-brings : goal.returns-clause-brings
returns-clause-brings c = brings_one c.args.rooms.now c.args.cell c.args.content.now c.in_ok-room.room c.from_buf.result.items (search rules) c.in_ok-room.ensures

pub returns-clause-no_idle : goal.returns-clause-no_idle
returns-clause-no_idle c = one_idle c.args.rooms.now c.args.cell c.in_ok-room.room c.from_buf.result.items (search rules) (λ s. clash c.reads_this.result (c.reads_this.ensures.1 s) c.if-reads_this.false)

pub returns-clause-order : goal.returns-clause-order
returns-clause-order c = one_order c.args.cell c.in_ok-room.room c.from_buf.result.items (search rules)
