pub mod Places
pub mod Laws
