-- Definitions first; what is proved of them is in Laws and Theorems, and Tables is evaluated.
pub mod Listing
pub mod Laws
pub mod Theorems
pub mod Tables
