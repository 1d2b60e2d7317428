use Rattle.wi_scenarios.proofs.ChainLemmas.{new_has_chains, keeps_chains, gives_chain}
use Rattle.wi_scenarios.proofs.laws.scenarios_have_chains.Goals as goal

pub returns-clause-new : goal.returns-clause-new
returns-clause-new c = new_has_chains

pub returns-clause-kept : goal.returns-clause-kept
returns-clause-kept c = keeps_chains

pub returns-clause-is_chain : goal.returns-clause-is_chain
returns-clause-is_chain c = gives_chain
