-- What the proofs about placed plans use.
-- `Numbered`: the places of cells, one after another.
-- `PlacedTrees`: what the placed form of each kind of expression means.
-- `PlacedPlans`: the cells of a plan are placed one after another.
pub mod Numbered
pub mod PlacedTrees
pub mod PlacedPlans
