-- Definitions first; what is proved of them is under Laws; the values are pinned in Tables.
pub mod Outcome
pub mod Number
pub mod Minutes
pub mod Fields
pub mod Record
pub mod Answers
pub mod Code
pub mod Laws
pub mod Theorems
pub mod Tables
