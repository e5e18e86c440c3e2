pub mod Begin
pub mod Play
pub mod Player
pub mod Frames
pub mod Promises
