pub mod Starts
pub mod Full
pub mod Tolerated
pub mod Answered
pub mod Points
