use Rattle.wi_reports.proofs.Words.{◌∙◌, starts_itself, starts_joined, demanded}
use Rattle.wi_reports.proofs.CostLemmas.{asked_of, both_asked, front_asked}
use Rattle.wi_reports.proofs.compare.push_cell.Goals as goal

pub push_compared-requires : goal.push_compared-requires
push_compared-requires g c = c.requires.1

pub returns-clause-kept : goal.returns-clause-kept
returns-clause-kept g c = starts_joined c.push_compared.result _ _ _ c.push_compared.ensures.ok c.push_compared.ensures.err

pub returns-in_err-before-clause-kept : goal.returns-in_err-before-clause-kept
returns-in_err-before-clause-kept g c = starts_itself _

pub value_under-requires : goal.value_under-requires
value_under-requires g c = c.requires.0

pub returns-clause-same : goal.returns-clause-same
returns-clause-same g c = c.push_compared.ensures.same ∙ c.in_ok-before.ensures.same

pub returns-clause-cost : goal.returns-clause-cost
returns-clause-cost g c =
    both_asked c.in_ok-before.ensures.cost
    (asked_of (λ s. demanded s.sheet c.args.sides.now.second.now c.args.at) _ _ c.in_ok-before.ensures.same c.push_compared.ensures.cost)

pub returns-in_err-before-clause-cost : goal.returns-in_err-before-clause-cost
returns-in_err-before-clause-cost g c = front_asked _ c.in_err-before.ensures.cost
