pub mod Signs
pub mod Turns
pub mod Heads
pub mod Pass
pub mod Gates
pub mod Slots
pub mod Equations
pub mod Paths
