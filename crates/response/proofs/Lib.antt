pub mod Bounds
pub mod Answers
pub mod Answered
