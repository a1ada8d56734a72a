pub mod Laws
pub mod Direction
pub mod Sums
