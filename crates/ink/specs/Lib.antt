pub mod Ink
pub mod Laws
