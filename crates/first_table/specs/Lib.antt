pub mod Marks
pub mod Tables
pub mod Promises
pub mod Steps
