-- The hanging load of document 02, §7. Read in this order:
--   Step        the range, one step, and its order of refusals
--   Facts       what is out of range, in plain facts
--   Says        the contract of the public entry, by name
--   Energy      the energy, the remainder, and steps one after the other
--   Examples    a table of steps, worked out by hand
--   Statements  what is claimed of these; proofs/Statements.antt has a proof of each
pub mod Step
pub mod Facts
pub mod Says
pub mod Energy
pub mod Examples
pub mod Statements
