-- The definitions that the contracts cite.
pub mod Answers
pub mod Figures
pub mod Columns
