use Rattle.wi_tiles.proofs.Words.{rules}
use Rattle.wi_tiles.proofs.MaskLemmas.{columns_all, columns_between}
use Rattle.wi_tiles.proofs.masks.columns_of.Goals as goal

pub returns-then-left-right : goal.returns-then-left-right
returns-then-left-right c = columns_all c.args.area

pub returns : goal.returns
returns c = columns_between c.args.area c.column-left.result c.column-right.result (search rules) (search rules) c.if-left-right.false
