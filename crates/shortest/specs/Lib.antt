-- The definitions that the public contract cites.
pub mod Answers
