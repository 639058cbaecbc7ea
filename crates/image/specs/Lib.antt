pub mod Code
pub mod Header
pub mod Image
pub mod Judged
pub mod Promises
