pub mod Reads
pub mod Writes
pub mod Promises
