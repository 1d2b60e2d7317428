-- What the proofs about plans use, in the order in which the lemmas rest on each other:
-- `Orders`: the cells of a plan are demanded by the root, and may be read.
-- `ReadyValues`: a formula whose precedents are found lacks nothing.
-- `Following`: the cells of a plan are found one after another, for `follow_trees`.
-- `PlacedCells`: the values of placed formulas are those of their cells, for `follow_placed`.
-- `FullLists`: what a question spends that ends with a plan where no place is free, for `planned_value`.
pub mod Orders
pub mod ReadyValues
pub mod Following
pub mod PlacedCells
pub mod FullLists
