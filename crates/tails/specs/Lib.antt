-- The definitions that the contracts cite.
pub mod Words
pub mod Slots
pub mod Passes
