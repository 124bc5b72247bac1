-- Laws of the C face.
pub mod Outcomes
pub mod Sessions
pub mod OneRecord
pub mod Merging
pub mod Loading
pub mod Showing
pub mod Leaving
pub mod Ropes
pub mod Statements
