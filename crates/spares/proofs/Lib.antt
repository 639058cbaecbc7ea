pub mod Exact
pub mod Accepted
pub mod Examples
