pub mod Consts
pub mod Pink
pub mod NoiseGenerator
pub mod Calls
pub mod Promises
pub mod Shortcuts
