pub mod Ingress
pub mod Laws
pub mod Story
pub mod Kept
pub mod Conserved
pub mod Calls
pub mod Winter
pub mod One
