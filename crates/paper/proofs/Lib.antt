pub mod Cases
pub mod Chain
pub mod Rows
pub mod Kept
pub mod Writing
