pub mod Words
pub mod Capped
pub mod Gates
pub mod Passes
pub mod Filling
