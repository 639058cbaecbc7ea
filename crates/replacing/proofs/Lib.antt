pub mod Replacements
pub mod Censuses
pub mod Moves
