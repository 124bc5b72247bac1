-- Laws of the model, for the crates above.
--   Levers      the lever held at a place after a record is put in
--   Records     the levers held at its places decide a log, and so do its records
--   Rows        steps made and made again: the state, and the saved rows
--   Calls       each answer with what its tests said, and what a call leaves
--   Delivered   what a call adds to the records held
--   Kept        what every session as in demand 3 keeps
--   History     the clock by the readings alone; a record once held stays held
--   Swap        two records taken in either order
--   Words       rows laid end to end
--   Example     the example of 100 steps made
--   Statements  the statements of specs/Statements.antt
pub mod Levers
pub mod Records
pub mod Rows
pub mod Calls
pub mod Delivered
pub mod Kept
pub mod History
pub mod Swap
pub mod Words
pub mod Example
pub mod Statements
