pub mod Loops
pub mod Sign
pub mod StepLaws
pub mod LaneLaws
pub mod Held
pub mod Reached
pub mod Settled
