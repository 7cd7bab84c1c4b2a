pub mod Lasts
pub mod OneLast
