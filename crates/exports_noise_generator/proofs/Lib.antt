pub mod Slices
pub mod Needed
pub mod Settled
