-- Laws of the program's answer.
pub mod Written
pub mod Statements
