pub mod Growth
pub mod Joined
pub mod Counted
pub mod Copied
pub mod ReadAgain
