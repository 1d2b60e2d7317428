-- Words of the code's own contracts, and readers that laws tie to the definitions. Nothing here needs belief.
pub mod Bounds
pub mod Within
pub mod Stripping
pub mod Search
pub mod Rooms
pub mod Staging
pub mod Turning
pub mod Below
pub mod Changes
pub mod Walks
pub mod Apart
