pub mod Runs
pub mod Starts
pub mod Skips
pub mod Same
