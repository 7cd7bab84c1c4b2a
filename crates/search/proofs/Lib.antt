pub mod Moves
pub mod Tested
