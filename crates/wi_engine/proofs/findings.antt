-- What the proofs about what was found use.
-- `FoundValues`: what is so of each value that was found stays so with one more, and that each is right is such a fact.
pub mod FoundValues
