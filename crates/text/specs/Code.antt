-- How the code's answers and steps stand for the definitions: nothing here is a rule of document 01.
pub mod Held
pub mod Writes
pub mod Faults
