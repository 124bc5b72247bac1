-- Laws of merging. The crates above cite these.
pub mod Turns
pub mod Merges
pub mod Fine
pub mod Cursors
pub mod Goes
pub mod Writes
pub mod Orders
pub mod Holds
pub mod Ways
pub mod Alike
pub mod Eights
pub mod ThreeLogs
pub mod Examples
pub mod Statements
