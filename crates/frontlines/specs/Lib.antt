-- Definitions first; what is proved of them is under Laws; the values are pinned in Tables.
pub mod Letters
pub mod Addresses
pub mod Filing
pub mod Heading
pub mod Code
pub mod Laws
pub mod Tables
