pub mod Words
pub mod Lowest
pub mod Cases
pub mod Writing
pub mod Accepted
pub mod Writable
pub mod Walks
