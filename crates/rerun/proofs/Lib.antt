-- Laws of the program's answer.
pub mod Past
pub mod Decimals
pub mod Statements
