pub mod Rows
pub mod Size
pub mod Parts
pub mod Held
pub mod Kept
