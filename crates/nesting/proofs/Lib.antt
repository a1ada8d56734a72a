pub mod Loops
pub mod Edges
pub mod Entered
pub mod Stages
pub mod Chain
