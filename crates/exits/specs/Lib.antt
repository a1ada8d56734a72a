-- What the search for a block without a path to the exit requires and ensures; then the definitions that the contracts of private functions
-- cite.
pub mod Lost
pub mod Marks
