pub mod Layout
pub mod Pages
pub mod Promises
