pub mod Locals
pub mod Data
pub mod Params
pub mod Structs
pub mod Handed
pub mod Taken
