-- The clock of document 01, over any step length: the code passes 20,000. Read in this order:
--   Clock       the fresh clock; gap, used, pool; the steps due; the clock after a reading; sound
--   Reading     the order of refusals of a reading, and what an accepted one gives
--   History     the clock after a list of readings, the accepted ones among them, their cut time
--   Examples    readings to which grouping applies
--   Says        the contract of each public entry, by name
--   Statements  what is claimed of these; proofs/Statements.antt has a proof of each
pub mod Clock
pub mod Reading
pub mod History
pub mod Examples
pub mod Says
pub mod Statements
