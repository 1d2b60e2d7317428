pub mod Filtering
mod Searching
mod Digest
mod RisingSteps
mod TellSteps
mod PickedLemmas
pub mod Words
