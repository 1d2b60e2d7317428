-- What the proofs about a cell whose formula is a what-if use, over `WhatIfs`:
-- `CasesBelow`: such a cell costs an evaluation beside what the what-if's formula cell costs.
-- `TriedCells`: what a question spends that ends with the cell where no place is free, for `what_if_value`, over `FullLists` of `plan`.
pub mod CasesBelow
pub mod TriedCells
