pub mod Places
pub mod Editions
pub mod Shapes
