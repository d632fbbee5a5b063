pub mod Parser
pub mod Laws
pub mod Moved
