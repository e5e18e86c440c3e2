pub mod Put
pub mod Page
pub mod Hex
pub mod Decimal
pub mod Lines
pub mod Promises
pub mod Settled
