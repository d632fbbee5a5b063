pub mod Convert
pub mod Laws
pub mod Kept
