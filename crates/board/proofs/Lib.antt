pub mod Places
pub mod Runways
pub mod Lines
