pub mod Pass
pub mod Begin
pub mod Laws
