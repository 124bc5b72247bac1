-- Laws of what every rule is said with, for the crates above.
pub mod Tests
pub mod Order
pub mod Ladder
pub mod LittleEndian
pub mod Refusals
pub mod Lists
pub mod Signed
pub mod Ring
pub mod Statements
