pub mod Decimal
pub mod Run
