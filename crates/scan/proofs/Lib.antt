pub mod Steps
pub mod Eights
