pub mod Bytes
pub mod Text
pub mod Logic
pub mod Steps
pub mod Laws
