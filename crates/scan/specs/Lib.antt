pub mod Words
pub mod Table
pub mod Scan
pub mod Every
pub mod Beginnings
