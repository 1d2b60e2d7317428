-- What the proofs about cones use.
pub mod ConeSteps
