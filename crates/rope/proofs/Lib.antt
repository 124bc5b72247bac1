-- Laws of the rope ends' definitions.
pub mod Numbers
pub mod Counted
pub mod Steps
pub mod Own
pub mod Rule18
pub mod Statements
