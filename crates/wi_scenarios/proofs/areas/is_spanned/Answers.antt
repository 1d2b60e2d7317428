use Rattle.wi_scenarios.proofs.OperandLemmas.{spanned_rows}
use Rattle.wi_scenarios.proofs.areas.is_spanned.Goals as goal

pub returns : goal.returns
returns c =
    spanned_rows c.args.area c.first.result c.last.result c.row.result c.row-2.result c.height.result c.width.result c.first.ensures c.last.ensures c.row.ensures.value c.row.ensures.within
    c.row-2.ensures.value c.row-2.ensures.within c.height.ensures.value c.height.ensures.some c.width.ensures.value c.width.ensures.some
