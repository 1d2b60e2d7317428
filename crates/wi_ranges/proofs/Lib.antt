pub mod BlockLemmas
pub mod Exact
pub mod PieceLemmas
pub mod ReaderLemmas
pub mod RisingLemmas
pub mod BagLemmas
pub mod Found
pub mod CutLemmas
pub mod LargestLemmas
pub mod Rows
pub mod Apart
mod AroundLemmas
mod AreaLemmas
mod TellLemmas
mod Levels
mod First
mod Sums
mod Counts
mod FewLemmas
mod ByCell
mod Joined
pub mod Words
