pub mod Letters
pub mod Addresses
pub mod Filing
pub mod Heading
pub mod Found
