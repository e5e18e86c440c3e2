pub mod Answer
pub mod Calls
pub mod Mark
pub mod Tally
pub mod Block
pub mod Promises
pub mod Settled
