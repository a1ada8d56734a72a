-- The definitions that the contracts cite, in reading order: document 01's, section by section, and what document 02 adds.
pub mod Table
pub mod Cycles
pub mod Rules
pub mod Run
pub mod Walk
pub mod Stays
pub mod Trimming
pub mod Shortest
pub mod Claim
pub mod Cases
pub mod Tally
