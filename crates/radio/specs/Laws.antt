-- What is proved of the definitions.
pub mod Outcome
pub mod Number
pub mod Minutes
pub mod Fields
pub mod Record
pub mod Size
pub mod Left
pub mod Refusals
pub mod Arrays
pub mod Held
