pub mod Tracks
pub mod Faults
pub mod Judged
pub mod Promises
pub mod Steps
