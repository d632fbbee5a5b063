pub mod Clears
mod Determined
