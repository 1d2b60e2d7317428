-- What the proofs use, in the order in which the lemmas rest on each other. Of cells and cones:
-- `EmptyCells`, passed on from `wi_sheet`; `GenerationSteps`, how numbers are given and raised; over it `StampSteps`, what generations they tell and
-- what is owed, and `FlushingSteps`, how what is dirty is flushed; `ReplacedCones`, `KeptCones`.
-- Of what is kept:
-- `RightValues`: values that are kept stay right, over an edit, where one is kept, and where a question begins.
-- `KeepSteps`: what is so where one value is kept; over it `PlaceCounts`, each value takes one place, and `ValuesAtHand`, what is kept or was
-- given up in the question, and what is owed of a value that is remembered; `PutAside`, one is found that takes none.
-- `Editing`: what is so of a calculator stays so over an edit, by generations and `RightValues`.
-- Of a question:
-- `Questions`: how it begins (`Begins`), what is kept when it ends, that what always holds of the calculator holds then (`AlwaysHolds`), and that
-- it owes what its contract says (`Owes`).
-- `EntryQuestions`: an entry of a data table.
-- And `Words`: all that these proofs are written in and don't say themselves: names of the library, of the crates below and of the definitions.
pub mod EmptyCells
pub mod GenerationSteps
pub mod StampSteps
pub mod FlushingSteps
pub mod ReplacedCones
pub mod KeptCones
pub mod HeadSteps
pub mod RightValues
pub mod KeepSteps
pub mod PlaceCounts
pub mod ValuesAtHand
pub mod PutAside
pub mod Editing
pub mod Questions
pub mod EntryQuestions
pub mod Words
