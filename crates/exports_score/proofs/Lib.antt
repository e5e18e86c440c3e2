pub mod Cells
pub mod Saved
pub mod Examples
pub mod Settled
