pub mod Edges
pub mod Incoming
pub mod Queues
pub mod Removal
pub mod Orders
