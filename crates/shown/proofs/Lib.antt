-- Laws of the shown place, for the crates above. The first three know only floats.
pub mod Values
pub mod Rounding
pub mod Differences
pub mod Between
pub mod Statements
