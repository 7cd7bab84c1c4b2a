pub mod Copies
pub mod Places
pub mod Columns
