pub mod Drops
pub mod Counts
pub mod Firsts
pub mod Everys
pub mod Searches
pub mod Times
pub mod Befores
