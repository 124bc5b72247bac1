-- Demands 2 and 3, over any world that moves in steps: nothing here knows what a state is or what a
-- step does. Read in this order:
--   World       what a course runs on; demand 2's state after n steps and saved rows
--   Session     what is handed from call to call; steps made, rows saved, going back
--   Calls       readings and deliveries: their orders, what they give, the session that they leave
--   Words       worlds whose states are words, with their rows laid end to end
--   Example     a small world, and document 01's example of 100 steps made
--   Statements  what is claimed of every lawful world; proofs/Statements.antt has a proof of each
pub mod World
pub mod Session
pub mod Calls
pub mod Words
pub mod Example
pub mod Statements
