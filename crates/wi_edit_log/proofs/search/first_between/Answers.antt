use Rattle.wi_edit_log.proofs.Shared.{turned}
use Rattle.wi_edit_log.proofs.search.first_between.Goals as goal

pub returns-else-areas-others : goal.returns-else-areas-others
returns-else-areas-others c = turned c.args.others.now c.args.areas.now c.first_in_each-else-areas-others.result c.first_in_each-else-areas-others.ensures
