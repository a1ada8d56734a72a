-- The definitions, in reading order.
pub mod Search
pub mod Bytes
