pub mod Rule
pub mod Theorem
pub mod Steps
pub mod Laws
mod Determined
