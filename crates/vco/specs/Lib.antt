pub mod Consts
pub mod Waves
pub mod Vco
pub mod Shortcuts
pub mod Calls
pub mod Promises
