use Rattle.wi_graph.proofs.LatestLaws.{latest_of_cone, one_is_latest, latest_rises, latest_by_step, latest_is_among}
use Rattle.wi_graph.proofs.laws.latest_is_reached.Goals as goal

pub returns-clause-cone : goal.returns-clause-cone
returns-clause-cone c = latest_of_cone

pub returns-clause-one : goal.returns-clause-one
returns-clause-one c = one_is_latest

pub returns-clause-rises : goal.returns-clause-rises
returns-clause-rises c = latest_rises

pub returns-clause-step : goal.returns-clause-step
returns-clause-step c = latest_by_step

pub returns-clause-among : goal.returns-clause-among
returns-clause-among c = latest_is_among
