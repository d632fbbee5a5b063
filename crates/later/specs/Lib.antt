pub mod Later
pub mod Behind
pub mod Begun
pub mod Stays
pub mod Advance
pub mod Changes
