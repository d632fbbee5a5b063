pub mod Outcome
pub mod Laws
pub mod One
