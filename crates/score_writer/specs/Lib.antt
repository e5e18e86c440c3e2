pub mod Writing
pub mod Examples
pub mod Promises
pub mod Settled
