pub mod Said
pub mod Sayable
pub mod Told
pub mod Empty
pub mod Oks
pub mod Decimal
pub mod Codes
pub mod Theorem
