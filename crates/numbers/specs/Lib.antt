pub mod Number
pub mod Steps
