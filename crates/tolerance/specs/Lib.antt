pub mod Bounds
pub mod Walk
