pub mod Weights
pub mod Rounds
pub mod Headers
pub mod Multipliers
pub mod Remaking
