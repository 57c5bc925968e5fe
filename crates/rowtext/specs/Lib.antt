-- Definitions; what is shown of them, in Theorems, and the laws that it rests on; tables that the checker evaluates.
pub mod Text
pub mod Reading
pub mod Fault
pub mod Writing
pub mod Code
pub mod Laws
pub mod Theorems
pub mod Edges
pub mod Pins
