pub mod Differences
pub mod Spreads
