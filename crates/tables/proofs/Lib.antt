pub mod Starts
pub mod Passes
pub mod Copies
pub mod Sizes
pub mod Texts
pub mod Whole
