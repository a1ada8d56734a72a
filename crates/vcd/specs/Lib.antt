-- The definitions, in reading order.
pub mod Words
pub mod Syntax
pub mod Recording
pub mod Cases
pub mod Writing
pub mod Claim
