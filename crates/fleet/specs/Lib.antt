-- All carriers of a yard: their state words, a step of them all, runs of steps. Read in this order:
--   State       the words of a carrier, in and out; where each is free; the state rule
--   Step        one step of all carriers in number order, under the levers held at it
--   Run         steps one after the other, without saved rows and with them
--   Facts       the state rule as plain facts
--   Fits        what the functions over a world, a log and the buffers are given
--   Site        the lent parts of a world, as the code hands them on
--   Examples    the practice yard, which fits what the functions are given
--   Says        the contract of the one public entry, by name
--   Statements  what is claimed of these; proofs/Statements.antt has a proof of each
pub mod State
pub mod Step
pub mod Run
pub mod Facts
pub mod Fits
pub mod Site
pub mod Examples
pub mod Says
pub mod Statements
