pub mod Size
pub mod Figure
pub mod Third
pub mod Change
