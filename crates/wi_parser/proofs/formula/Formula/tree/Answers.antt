use Rattle.wi_parser.proofs.formula.Formula.tree.Goals as goal

pub returns : goal.returns
returns c = c.self.view_is
