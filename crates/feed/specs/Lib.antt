pub mod Feed
pub mod Laws
pub mod Genuine
pub mod Calls
