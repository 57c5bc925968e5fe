-- Definitions first; what is proved of them stands in Theorems and rests on Laws, here and in proofs/; each number and order is pinned in Tables.
pub mod Third
pub mod Change
pub mod Counts
pub mod Laws
pub mod Theorems
pub mod Tables
