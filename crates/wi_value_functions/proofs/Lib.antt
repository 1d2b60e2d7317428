pub mod Counts
pub mod Cutting
pub mod Places
mod Counting
mod Texts
mod Joining
mod Taking
mod Finding
pub mod Searching
pub mod Names
pub mod Given
mod RowValues
pub mod ValuesAlone
pub mod Comparing
pub mod Words
