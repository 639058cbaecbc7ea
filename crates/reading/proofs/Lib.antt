pub mod Seats
pub mod Exact
pub mod Spots
pub mod Parts
pub mod Alike
pub mod Written
pub mod Sized
