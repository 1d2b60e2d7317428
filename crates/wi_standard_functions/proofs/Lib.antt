pub mod Criteria
