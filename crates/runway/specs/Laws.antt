pub mod Time
pub mod Runway
