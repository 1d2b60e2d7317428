use Rattle.wi_edit_log.proofs.Next.{first_is}
use Rattle.wi_edit_log.proofs.cells.first_cell.Goals as goal

pub returns : goal.returns
returns c =
    first_is c.args.area c.first.result c.height.result c.width.result c.first.ensures c.height.ensures.value c.height.ensures.some c.width.ensures.value c.width.ensures.some
