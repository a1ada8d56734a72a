pub mod Ranges
pub mod Reply
