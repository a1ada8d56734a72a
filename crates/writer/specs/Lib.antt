-- What the answers say; then the definitions that the contracts of private functions cite.
pub mod Answers
pub mod Pieces
pub mod Programs
