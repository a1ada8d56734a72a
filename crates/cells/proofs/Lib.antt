-- What the proofs of several functions use.
pub mod Fields
pub mod Short
pub mod Written
