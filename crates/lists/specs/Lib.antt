pub mod Proper
pub mod Union
pub mod Steps
