-- What describes the code's steps and not document 02.
pub mod Held
