use Rattle.wi_propagate.proofs.Words.{◌∙◌, sym, same_replacements_Decides}
use Rattle.wi_propagate.proofs.last_worlds.has_exactly.Goals as goal

pub returns : goal.returns
returns c =
    let same = c.replacements.ensures.value in
    let decides = same_replacements_Decides c.replacements.result.now c.args.replacements.now in
    (λ t. sym same ∙ decides.0 (sym c.eq.ensures ∙ t), λ e. c.eq.ensures ∙ decides.1 (same ∙ e))
