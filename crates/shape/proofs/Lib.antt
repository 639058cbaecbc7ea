pub mod Bounds
pub mod Inverse
pub mod Exact
pub mod Angles
