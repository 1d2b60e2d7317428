use Rattle.wi_scenario_list.proofs.scenarios.Scenarios.+has_below.Given as goal

abbrev pub decreases-has_below : goal.decreases-has_below
decreases-has_below l = l.bound
