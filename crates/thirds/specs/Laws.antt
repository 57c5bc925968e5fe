pub mod Groups
pub mod Alike
pub mod Sizes
pub mod Held
