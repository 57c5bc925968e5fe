-- Definitions first; what is proved of them is under Laws.
pub mod Groups
pub mod Code
pub mod Pins
pub mod Laws
