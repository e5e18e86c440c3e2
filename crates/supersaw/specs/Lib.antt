pub mod Consts
pub mod Voices
pub mod Supersaw
pub mod Shortcuts
pub mod Calls
pub mod Promises
