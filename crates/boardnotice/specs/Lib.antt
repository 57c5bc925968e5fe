-- Definitions; what is shown of them; tables that the checker evaluates.
pub mod Writing
pub mod DeskNotice
pub mod Laws
pub mod Theorems
pub mod Tables
