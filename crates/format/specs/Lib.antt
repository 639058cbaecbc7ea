pub mod Options
pub mod Spaces
pub mod Promises
pub mod Nights
pub mod Steps
