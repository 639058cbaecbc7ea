pub mod Shapes
pub mod Addresses
pub mod Promises
pub mod Steps
