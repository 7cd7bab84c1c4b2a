pub mod Stages
pub mod Meaning
