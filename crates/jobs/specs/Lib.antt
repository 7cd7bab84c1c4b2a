pub mod Stands
pub mod Task
