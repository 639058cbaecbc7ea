pub mod Carried
pub mod Numbers
pub mod Determined
