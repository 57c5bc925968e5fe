-- Definitions first; what is proved of them is under Laws.
pub mod Item
pub mod ItemText
pub mod ReadItem
pub mod Awareness
pub mod Language
pub mod Tables
pub mod Parts
pub mod Laws
