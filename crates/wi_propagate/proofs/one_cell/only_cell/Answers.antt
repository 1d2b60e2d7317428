use Rattle.wi_propagate.proofs.Words.{rules, lone_key}
use Rattle.wi_propagate.proofs.one_cell.only_cell.Goals as goal

pub returns : goal.returns
returns c = lone_key c.args.changes.now c.index-changes-0.result (search rules) c.index-changes-0.is
