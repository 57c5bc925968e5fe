-- How the code's answers stand for the definitions: nothing here is a rule of the documents.
pub mod Held
