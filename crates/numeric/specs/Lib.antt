pub mod Numeric
pub mod Heard
pub mod Laws
pub mod Calls
pub mod Rest
