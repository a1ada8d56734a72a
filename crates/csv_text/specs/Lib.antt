pub mod Grammar
pub mod Place
pub mod Write
