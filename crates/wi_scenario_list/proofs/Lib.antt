mod Listed
mod Stored
mod Own
pub mod Chains
pub mod Named
pub mod ChainsKept
mod Rows
pub mod Words
