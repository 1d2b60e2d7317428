use Rattle.wi_graph.proofs.Tests.{clash}
use Rattle.wi_graph.proofs.ChangeSteps.{next_out, next_put, out_idle, put_idle}
use Rattle.wi_graph.proofs.changes.put_next.Goals as goal

pub returns-then-reads_this-clause-puts : goal.returns-then-reads_this-clause-puts
returns-then-reads_this-clause-puts c = next_out c.args.rooms.now c.args.next.now.entries c.remove.new.self.entries c.args.cell c.args.room (c.reads_this.ensures.0 c.if-reads_this.true) c.remove.ensures.updates.0

pub returns-then-reads_this-clause-no_idle : goal.returns-then-reads_this-clause-no_idle
returns-then-reads_this-clause-no_idle c = out_idle c.args.rooms.now c.args.next.now.entries c.remove.new.self.entries c.args.cell c.remove.ensures.updates.0

pub returns-clause-puts : goal.returns-clause-puts
returns-clause-puts c = next_put c.args.rooms.now c.args.next.now.entries c.insert.new.self.entries c.args.cell c.args.room c.in_ok-insert.ensures.updates.0

pub returns-clause-no_idle : goal.returns-clause-no_idle
returns-clause-no_idle c = put_idle c.args.rooms.now c.args.next.now.entries c.insert.new.self.entries c.args.cell c.args.room (λ s. clash c.reads_this.result (c.reads_this.ensures.1 s) c.if-reads_this.false) c.in_ok-insert.ensures.updates.0
