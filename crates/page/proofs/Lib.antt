pub mod Exact
pub mod Bytes
pub mod Back
