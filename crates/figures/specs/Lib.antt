-- The definitions that the contracts cite.
pub mod Figures
pub mod Columns
