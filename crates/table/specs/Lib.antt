pub mod Table
pub mod Laws
