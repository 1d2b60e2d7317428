-- Definitions of scenarios. What stands in `Inner` needs no belief.
pub mod Scenarios
pub mod Bases
pub mod Inner
