pub mod Frame
pub mod Frames
pub mod End
pub mod Promises
