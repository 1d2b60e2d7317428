-- What the proofs about lists of what was found use.
-- `FoundCells`: the three places in which the values of cells stand, and one value more in each.
-- `FoundPairs`: the what-ifs that are found, by their inputs.
pub mod FoundCells
pub mod FoundPairs
