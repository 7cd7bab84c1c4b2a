pub mod Machine
pub mod Stretches
