pub mod Consts
pub mod Waves
pub mod Lfo
pub mod Small
pub mod Shortcuts
pub mod Calls
pub mod Promises
