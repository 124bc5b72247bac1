-- Laws of a session: the ways through its tests, what a sound one says, and what its calls leave.
pub mod Facts
pub mod Room
pub mod Refused
pub mod Openings
pub mod Good
pub mod Readings
pub mod Deliveries
pub mod Showing
