-- Definitions first; then tables that the checker evaluates, and laws. Each public function promises that its result is a definition's value, so
-- that no two answers meet the promise.
pub mod Descriptions
pub mod Third
pub mod Table1
pub mod Assess
pub mod Code
pub mod Edges
pub mod Pins
pub mod Laws
