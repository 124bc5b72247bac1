-- The shown place of a carrier. Read in this order:
--   Blend       one coordinate, from the previous and the present one; what lies between them
--   Answer      the place of both coordinates
--   Says        the contract of each public entry, by name
--   Statements  what is claimed of these, each with its proof in proofs/Statements.antt
pub mod Blend
pub mod Answer
pub mod Says
pub mod Statements
