-- What the proofs about making plans use.
-- `PlainFormulas`: formulas without what-ifs, what they read and on what they rest.
-- `NextPlanned`: the cells of a plan, one after another.
-- `Drafts`: the path of a draft.
pub mod PlainFormulas
pub mod NextPlanned
pub mod Drafts
