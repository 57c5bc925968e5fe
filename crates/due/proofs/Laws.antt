pub mod Change
pub mod Figure
pub mod Third
