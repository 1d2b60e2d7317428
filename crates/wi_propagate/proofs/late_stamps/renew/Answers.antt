use Rattle.wi_propagate.proofs.HeadSteps.{renewed_elsewhere, renewed_here}
use Rattle.wi_propagate.proofs.late_stamps.renew.Goals as goal

pub returns-then-number-greatest : goal.returns-then-number-greatest
returns-then-number-greatest c = renewed_here c.args.greatest c.args.counts_as c.args.number c.if-number-greatest.true

pub returns-else-number-greatest : goal.returns-else-number-greatest
returns-else-number-greatest c = renewed_elsewhere c.args.greatest c.args.counts_as c.args.number c.if-number-greatest.false
