-- Document 02, §3: what the remade columns are, without an algorithm.
pub mod Rounds
pub mod Remade
-- The same columns by definitions that compute, the reply to a pair of tables, and cases.
pub mod Tails
pub mod Columns
pub mod Replies
pub mod Cases
