pub mod Fitting
pub mod Bounds
pub mod Stores
pub mod Digits
pub mod Places
pub mod Runs
pub mod Coded
