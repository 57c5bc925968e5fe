pub mod Slots
pub mod Forms
pub mod Item
pub mod Order
pub mod Awareness
pub mod Language
pub mod Size
pub mod Parts
