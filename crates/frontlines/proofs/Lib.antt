pub mod Groups
pub mod Lines
pub mod List
pub mod Writes
