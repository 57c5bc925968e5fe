-- What the promises cite.
pub mod Code
