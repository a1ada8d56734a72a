-- What the proofs of several functions use.
pub mod Runs
pub mod Numerals
