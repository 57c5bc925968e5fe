-- Definitions first; then what is shown of them, Theorems and Laws, here and in proofs/ (demand 3 there); tables that the checker evaluates.
pub mod Board
pub mod Report
pub mod Runs
pub mod Shows
pub mod Laws
pub mod Theorems
pub mod Tables
