pub mod Count
pub mod Lowest
pub mod Every
pub mod Search
