use Rattle.wi_scenario_list.proofs.Words.{◌∙◌, List, ap, Global, RcStr, stored, Layer}
use Rattle.wi_scenario_list.proofs.Stored.{inserted}
use Rattle.wi_scenario_list.proofs.scenarios.insert.Goals as goal

pub returns-clause-ok : goal.returns-clause-ok
returns-clause-ok c = ap (λ (es : List (RcStr Global × Layer)). stored es) c.in_ok-insert.ensures.entries ∙ inserted c.args.name c.args.layer c.args.layers.now.entries
