-- Definitions first; what is proved of them is under Laws.
pub mod Rows
pub mod Code
pub mod Laws
pub mod Tables
