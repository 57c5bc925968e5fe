pub mod Writing
pub mod Line
