-- What stands below the rows; what the promises cite besides; what is proved; answers that the checker evaluates.
pub mod Remarks
pub mod Code
pub mod Laws
pub mod Tables
