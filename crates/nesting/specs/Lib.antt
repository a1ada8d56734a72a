-- The definitions that the contracts cite, in reading order.
pub mod Columns
pub mod Answers
