-- What the proofs about the walk along references use, in the order in which the lemmas rest on each other. A walk is told by a list of
-- tasks (`IsWalk`), of which the last is the next, and its path stands for such a list.
-- `WalkSteps`: what is so of a walk stays so where a cell is passed, left or entered; where it meets a cycle, a root is circular.
-- `WalkLengths`: with each step fewer tasks are left.
-- `Cursors`: the tasks that a path stands for, where a visit is a cursor in the rectangles of its formula.
-- `PathSteps`: the steps of `WalkSteps` over such tasks, whatever stands before them, and from one root to the next.
pub mod WalkSteps
pub mod WalkLengths
pub mod Cursors
pub mod PathSteps
