-- What the ordering of the blocks ensures; then the definitions that the contracts of private functions cite.
pub mod Ordering
pub mod Edges
