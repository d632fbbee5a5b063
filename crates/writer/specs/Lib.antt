pub mod Writer
pub mod Laws
