pub mod Figures
pub mod Edge
pub mod Reply
