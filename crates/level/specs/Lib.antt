pub mod Level
pub mod Laws
pub mod Levels
