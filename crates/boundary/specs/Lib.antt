pub mod Flat
pub mod Edge
pub mod Promises
pub mod Settled
