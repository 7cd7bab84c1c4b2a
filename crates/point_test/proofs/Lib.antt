pub mod Starts
pub mod Passes
pub mod Falls
