pub mod Gateway
pub mod Laws
