-- What the proofs of several functions use.
pub mod Rows
pub mod Taken
pub mod Short
