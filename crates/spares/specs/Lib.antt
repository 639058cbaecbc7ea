pub mod Spares
pub mod Promises
