-- Rope ends on the screen (document 02, §8). Read in this order:
--   Forces      what a force does to a point, the sum of forces, forces whose numbers are finite
--   Step        the move, and the order of refusals
--   Facts       what refuses a step, in plain facts
--   Says        the contracts of `Point::step` and `Point::step_counted`, by name
--   Statements  what is claimed of these, each with its proof of that type in
--               proofs/Statements.antt
pub mod Forces
pub mod Step
pub mod Facts
pub mod Says
pub mod Statements
