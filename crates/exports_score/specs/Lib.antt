pub mod Cells
pub mod Shortcuts
pub mod Calls
pub mod Examples
pub mod Promises
