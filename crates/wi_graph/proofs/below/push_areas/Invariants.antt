use Rattle.wi_graph.proofs.Words.{take, HasAreas}
use Rattle.wi_graph.proofs.below.push_areas.Given as goal

abbrev pub invariant-loop-area : goal.invariant-loop-area
invariant-loop-area l = HasAreas l.cell (take l.area-index l.areas) l.initial.ahead.items l.ahead.items
