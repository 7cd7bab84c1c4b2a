pub mod Cases
pub mod Spans
pub mod Blocks
