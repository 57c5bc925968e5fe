pub mod Remarks
pub mod Size
pub mod Held
