pub mod Words
pub mod Stages
pub mod Whole
