-- What only the proofs of the functions need.
pub mod Minutes
pub mod Fields
pub mod Numbers
pub mod Rows
pub mod Writing
