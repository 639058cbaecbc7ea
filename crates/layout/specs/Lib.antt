pub mod Layouts
pub mod Descriptors
pub mod Sides
pub mod Steps
