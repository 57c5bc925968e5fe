-- Definitions first; what is proved of them is under Laws; the values are pinned in Tables.
pub mod Places
pub mod Code
pub mod Laws
pub mod Tables
