pub mod Lengths
pub mod Played
pub mod Claim
pub mod Settled
