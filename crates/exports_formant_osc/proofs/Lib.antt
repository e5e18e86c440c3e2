pub mod Stores
pub mod Settled
