pub mod Ended
pub mod Ranges
pub mod Wrote
pub mod Texts
pub mod Put
pub mod Examples
pub mod Settled
