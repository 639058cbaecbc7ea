pub mod Standings
pub mod Once
pub mod Marking
pub mod Obeying
pub mod Exact
pub mod Lookups
pub mod Stops
pub mod Censuses
