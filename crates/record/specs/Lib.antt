-- Definitions; the text part by part; tables that the checker evaluates.
pub mod Record
pub mod Notice
pub mod Answer
pub mod Code
pub mod Laws
pub mod Tables
