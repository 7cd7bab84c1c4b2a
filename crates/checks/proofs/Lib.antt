pub mod Asks
pub mod Assignment
pub mod Meaning
