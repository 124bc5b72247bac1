-- The yard of document 01. Read in this order:
--   Ranges      minus, ranges of whole numbers, a test of every number below a bound
--   Boxes       the carriers' words and sizes; what fits the functions over a world
--   Free        walls, what the box covers, and where a carrier is free
--   Rule9       rule 9: ranges, cells, sizes, starts
--   Facts       where a carrier is free, and rule 9, as plain facts
--   Levers      the lever table, the cut, the brake, and part 2 of a step
--   Slide       the move along one axis, parts 3 and 4
--   Step        one carrier's step, parts 1 to 4, and its state rule
--   Says        the contract of each public entry, by name
--   Statements  what is claimed of these; proofs/Statements.antt has a proof of each
--   Search      for contracts of parts only: what the search of the covered cells answers
pub mod Ranges
pub mod Boxes
pub mod Free
pub mod Rule9
pub mod Facts
pub mod Levers
pub mod Slide
pub mod Step
pub mod Says
pub mod Statements
pub mod Search
