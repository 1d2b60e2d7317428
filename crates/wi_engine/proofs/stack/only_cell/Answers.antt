use Rattle.wi_engine.proofs.Words.{rules}
use Rattle.wi_engine.proofs.stack.FramesOnTop.{none_complete, only_one}
use Rattle.wi_engine.proofs.stack.only_cell.Goals as goal

pub returns : goal.returns
returns c =
    let bare = c.is_bare.ensures in
    only_one c.args.frame.now c.in-Cells.at c.in-Cells.others (bare.found c.if-not-is_bare.false) (search rules) (none_complete c.in-Cells.others c.is_empty.result c.is_empty.ensures c.if-not-is_empty.false) (bare.scans c.if-not-is_bare.false)
