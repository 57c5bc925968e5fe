pub mod Steps
pub mod Plain
