pub mod Float
pub mod Lists
pub mod Machine
