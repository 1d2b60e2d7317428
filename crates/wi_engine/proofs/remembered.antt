-- What the proofs about what is remembered use.
pub mod QuestionMemory
