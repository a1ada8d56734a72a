pub mod Reply
pub mod Written
pub mod Columns
pub mod Steps
pub mod Making
