-- What the proofs about the filled cells of a rectangle use.
pub mod FirstTouched
pub mod FirstReplaced
