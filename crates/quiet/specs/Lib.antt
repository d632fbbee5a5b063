pub mod Quiet
pub mod Laws
pub mod Customs
pub mod Steps
pub mod Nothing
pub mod Genuine
