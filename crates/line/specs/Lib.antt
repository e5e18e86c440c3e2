pub mod Bytes
pub mod Line
pub mod Number
pub mod Promises
pub mod Settled
