pub mod Before
pub mod Editions
pub mod Stands
pub mod Calls
