-- Definitions first; Theorems states demand 2 of them; what it rests on is under Laws.
pub mod Reading
pub mod Writing
pub mod Rewriting
pub mod Same
pub mod Wrong
pub mod Code
pub mod Laws
pub mod Theorems
pub mod Examples
