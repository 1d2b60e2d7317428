use Rattle.wi_scenario_list.proofs.scenarios.Scenarios.+layered.Given as goal

abbrev pub decreases-layered : goal.decreases-layered
decreases-layered l = l.bound
