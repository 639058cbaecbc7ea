pub mod Found
pub mod Exact
