-- Laws of the fleet, for the crates above.
--   Words       the words of a carrier, in and out of a state
--   Carriers    one carrier of a state: put in, free, and the state rule kept
--   Starts      the start is sound, a sound log fits
--   Steps       one step of all: each carrier is moved once
--   Joined      runs joined, sound, and moved by no record of another step
--   SavedRows   where a row stands, what saving one leaves, what a run leaves
--   Back        going back is as if the records had been held before
--   Examples    the practice yard, computed
--   Statements  the statements of specs/Statements.antt
pub mod Words
pub mod Carriers
pub mod Starts
pub mod Steps
pub mod Joined
pub mod SavedRows
pub mod Back
pub mod Examples
pub mod Statements
