pub mod Consts
pub mod Line
pub mod Step
pub mod KarplusStrong
pub mod Calls
pub mod Promises
pub mod Shortcuts
