pub mod Descriptions
pub mod Joints
