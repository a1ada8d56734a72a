-- What the proofs of several functions use.
pub mod Fields
pub mod Records
pub mod Splits
pub mod Inverse
pub mod Reading
pub mod Quotes
pub mod Short
