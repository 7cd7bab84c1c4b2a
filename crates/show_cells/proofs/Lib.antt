pub mod Jitters
