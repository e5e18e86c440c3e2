pub mod Basic
pub mod Floor
pub mod Draw
pub mod Power
pub mod Trig
pub mod Promises
pub mod Settled
