pub mod Alone
pub mod Demand
pub mod Restore
pub mod Rules
pub mod Step
pub mod Taken
