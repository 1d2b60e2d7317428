pub mod Given
pub mod Passing
pub mod RowMajor
pub mod Walking
