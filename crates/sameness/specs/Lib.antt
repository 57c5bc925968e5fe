-- Definitions first; what is proved of them is under Laws.
pub mod Same
pub mod Laws
