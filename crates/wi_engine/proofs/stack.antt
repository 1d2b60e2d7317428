-- What the proofs about the stack use.
-- `FramesOnTop`: the frames that stand in its two lists, where one is put on top or taken off.
pub mod FramesOnTop
