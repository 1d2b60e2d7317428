-- What the proofs about the frames use, in the order in which the lemmas rest on each other. Of one frame:
-- `NextCases`: on which cases the value of a case rests, so that ranks fall, and the key of the next one.
-- `Waits`: what a frame waits for is asked for and lacking, and with a value more less is lacking.
-- `NextValues`: what is found for a frame that waits, or the formula that has to be valued first.
-- `SettledFindings`: where what was found is settled, the frame's value rests on kept ones.
-- `Steps`: what a step of a frame leaves and counts (`FrameSteps`, `FrameCounts`), for `advance` and what it calls.
-- `TakenValues`: a frame takes in the value for which it waits (`FrameTakes`), for `take_in`.
-- Of all frames:
-- `Stacks`: a push and a pop, where ranks fall from the lowest frame to the one on top.
-- `Budgets`: what is counted stays within what was left to find.
-- `FrameRuns`: what is so of a run of frames (`IsRunning`), and what its turns do to that.
-- `SettledStacks`, `RunsWithSpace`: the same where there is room for all that is found (`IsSaving`), by what is kept in the place of
-- what was found; and what a question for a cell leaves (`ValuesCell`).
-- `Ends`: all of it together (`IsGoing`), and what was spent where it ends.
-- `StackedRuns`: the same where the stack shows what each frame is (`IsGoingOver`), for the loop of `run`.
pub mod NextCases
pub mod Waits
pub mod NextValues
pub mod SettledFindings
pub mod Steps
pub mod TakenValues
pub mod Stacks
pub mod Budgets
pub mod FrameRuns
pub mod SettledStacks
pub mod RunsWithSpace
pub mod Ends
pub mod StackedRuns
