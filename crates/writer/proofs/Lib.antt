-- What the proofs of several functions use.
pub mod Pieces
pub mod Spans
pub mod Edges
pub mod Short
pub mod Whole
pub mod Reply
pub mod Longest
