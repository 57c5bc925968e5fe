pub mod Base
pub mod Combine
pub mod Left
pub mod Lines
pub mod Names
pub mod Told
pub mod Typing
