pub mod Numbered
pub mod Verdicts
pub mod Notes
pub mod Points
