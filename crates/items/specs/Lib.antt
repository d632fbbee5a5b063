pub mod Rules
pub mod Hints
pub mod Laws
pub mod Says
pub mod Connect
