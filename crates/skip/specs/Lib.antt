pub mod Skipping
pub mod Walk
pub mod Translation
pub mod Cursors
pub mod Promises
