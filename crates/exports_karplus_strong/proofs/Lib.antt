pub mod CallLaws
pub mod Settled
