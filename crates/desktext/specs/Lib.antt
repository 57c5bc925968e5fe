-- What the desk's lines mean, and what it prints, for a whole input and for pieces of it; what is proved of the lines, the text and the pieces; inputs that
-- the checker evaluates.
pub mod Line
pub mod Desk
pub mod Desks
pub mod Pieces
pub mod Code
pub mod Laws
pub mod Theorems
pub mod LineTables
pub mod Tables
