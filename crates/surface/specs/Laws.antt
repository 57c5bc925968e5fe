pub mod Figures
pub mod Table3
pub mod Kinds
pub mod OneLine
pub mod Reported
pub mod Before
