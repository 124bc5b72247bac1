-- Laws of the hanging load.
pub mod Steps
pub mod Numbers
pub mod Rounding
pub mod Energy
pub mod Examples
pub mod Statements
