pub mod Back
pub mod Names
pub mod Details
pub mod Named
pub mod Slots
pub mod Forms
pub mod LineReading
