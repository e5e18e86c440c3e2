pub mod Consts
pub mod Coefs
pub mod Memo
pub mod Sound
pub mod FormantOsc
pub mod Shortcuts
pub mod Calls
pub mod Promises
