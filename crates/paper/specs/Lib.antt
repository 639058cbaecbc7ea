pub mod Refusals
pub mod Numbers
pub mod Checks
pub mod Exactly
pub mod Limits
pub mod Conditions
pub mod Promise
pub mod Answers
