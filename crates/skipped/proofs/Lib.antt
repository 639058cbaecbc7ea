pub mod Shown
pub mod Exact
