use Rattle.wi_scenario_list.proofs.Words.{rules}
use Rattle.wi_scenario_list.proofs.Own.{full_where_new, full_where_replaced}
use Rattle.wi_scenario_list.proofs.layer.Layer.is_full.Goals as goal

pub returns-then-not-contains_key : goal.returns-then-not-contains_key
returns-then-not-contains_key c = full_where_new c.args.self.now.own.value.entries c.args.at c.len.result (search rules) (search rules)

pub returns-else-not-contains_key : goal.returns-else-not-contains_key
returns-else-not-contains_key c = full_where_replaced c.args.self.now.own.value.entries c.args.at c.contains_key.result (search rules) (search rules)
