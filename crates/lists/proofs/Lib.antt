pub mod Risings
pub mod Members
pub mod Unions
pub mod Filling
pub mod Steps
pub mod Offs
pub mod Exact
