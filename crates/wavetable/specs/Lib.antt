pub mod Consts
pub mod Harmonics
pub mod Bank
pub mod Reads
pub mod Wavetable
pub mod Shortcuts
pub mod Calls
pub mod Promises
