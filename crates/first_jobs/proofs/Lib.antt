pub mod Firsts
pub mod Outside
