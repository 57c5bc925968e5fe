-- How the code's contracts speak of a writer.
pub mod Code
