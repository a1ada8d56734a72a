pub mod Fault
pub mod Row
pub mod Judge
pub mod Place
