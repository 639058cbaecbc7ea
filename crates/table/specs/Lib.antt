pub mod Places
pub mod Scratch
pub mod Rules
pub mod Lookup
pub mod Counting
pub mod Steps
