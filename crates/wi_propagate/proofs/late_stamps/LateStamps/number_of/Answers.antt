use Rattle.wi_propagate.proofs.Words.{◌∙◌, ap, sym, HeadedNumbers, generation_in, renewed}
use Rattle.wi_propagate.proofs.HeadSteps.{seen_number}
use Rattle.wi_propagate.proofs.late_stamps.LateStamps.number_of.Goals as goal

pub returns : goal.returns
returns c =
    let i = c.self.inside in
    c.renew.ensures ∙ ap (renewed i.greatest i.counts_as) c.number_at.ensures
    ∙ sym (seen_number i.numbers.entries i.head i.cone.items i.greatest i.counts_as c.self.invariant c.args.at)
    ∙ ap (λ (v : HeadedNumbers). generation_in v.numbers c.args.at) c.self.view_is
