pub mod Turn
pub mod Says
pub mod Laws
pub mod Kept
