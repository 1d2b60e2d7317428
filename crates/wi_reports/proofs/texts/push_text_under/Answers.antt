use Rattle.wi_reports.proofs.TextLemmas.{one_shown}
use Rattle.wi_reports.proofs.texts.push_text_under.Goals as goal

pub value_under-requires : goal.value_under-requires
value_under-requires g c = c.requires

pub returns-clause-text : goal.returns-clause-text
returns-clause-text g c = one_shown c.push_text_of.result _ _ _ _ c.in_ok-value.ensures.value c.push_text_of.ensures

pub returns-clause-cost : goal.returns-clause-cost
returns-clause-cost g c = c.in_ok-value.ensures.cost

pub returns-in_err-value-clause-cost : goal.returns-in_err-value-clause-cost
returns-in_err-value-clause-cost g c = c.in_err-value.ensures.cost
