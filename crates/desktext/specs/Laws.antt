pub mod Line
pub mod Desk
pub mod Pieces
pub mod Desks
