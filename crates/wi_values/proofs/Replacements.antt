-- What is proved of lists of replacements.
pub mod Same
pub mod InOrder
pub mod Overriding
pub mod Filtering
mod Rows
