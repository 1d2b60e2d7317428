use Rattle.wi_parser.proofs.expr.Corners.area.Goals as goal

pub returns : goal.returns
returns c = c.new.ensures
