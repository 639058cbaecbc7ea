pub mod Layings
pub mod Exact
pub mod Sectors
pub mod Words
