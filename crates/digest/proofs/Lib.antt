-- Laws of the digest, for the crates above.
pub mod Fnv
pub mod Words
pub mod Statements
