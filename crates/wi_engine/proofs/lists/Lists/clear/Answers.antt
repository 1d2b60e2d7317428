use Rattle.wi_engine.proofs.lists.FoundCells.{none_found}
use Rattle.wi_engine.proofs.lists.Lists.clear.Goals as goal

pub returns-clause-cells : goal.returns-clause-cells
returns-clause-cells c = λ a. none_found c.clear.new.self.items c.clear-2.new.self c.clear-3.new.self.entries a c.clear.ensures.items c.clear-2.ensures c.clear-3.ensures.empty
