use Rattle.wi_propagate.proofs.Words.{◌∙◌, sym}
use Rattle.wi_propagate.proofs.HeadSteps.{only_key}
use Rattle.wi_propagate.proofs.generations.only_cell.Goals as goal

pub returns : goal.returns
returns c = only_key c.args.numbers.now.entries _ _ (sym c.iter-rest.ensures.entries ∙ c.in-Some.ensures.steps) (sym c.len.ensures.len ∙ c.if-len-ne1.false)
