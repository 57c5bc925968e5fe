-- The three demands, clause by clause.
pub mod Demands
