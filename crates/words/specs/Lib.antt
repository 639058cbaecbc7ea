pub mod Words
pub mod Coded
