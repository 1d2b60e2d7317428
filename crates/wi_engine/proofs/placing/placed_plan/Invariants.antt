use Rattle.wi_engine.proofs.Words.{take}
use Rattle.wi_engine.specs.Inner.Placing.{AreNumbered}
use Rattle.wi_engine.proofs.placing.PlacedPlans.{ArePlacedTo}
use Rattle.wi_engine.proofs.placing.placed_plan.Given as goal

abbrev pub invariant-loop-input : goal.invariant-loop-input
invariant-loop-input l = AreNumbered (take l.input-index l.inputs) l.places

-- those before it are placed
abbrev pub invariant-loop-planned : goal.invariant-loop-planned
invariant-loop-planned l = ArePlacedTo l.store.sheet l.inputs l.cells l.planned-index l.placed.items l.places
