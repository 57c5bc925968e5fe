-- Definitions; the laws of a row's thirds; tables that the checker evaluates.
pub mod Row
pub mod Agreement
pub mod Laws
pub mod Pins
