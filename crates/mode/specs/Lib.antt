pub mod Modes
pub mod Promises
pub mod Steps
