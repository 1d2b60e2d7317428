pub mod Asking
pub mod Choosing
pub mod LazyAlone
pub mod NumberSteps
pub mod Outcomes
pub mod Parameters
pub mod PlacedValues
mod Rows
pub mod Words
