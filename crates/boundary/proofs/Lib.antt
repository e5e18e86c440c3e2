pub mod Flat
pub mod Laws
pub mod Lent
pub mod Settled
