-- Two stations, one log (document 02, §9). Read in this order:
--   Merge       the records of two logs, merged; no place with different levers
--   Calls       the order of refusals, and what a merge leaves
--   Facts       what refuses a merge, in plain facts
--   Says        the contract of each public entry, by name
--   Cursors     what the code's own functions are said with
--   Left        what a cursor of the code has before it
--   Three       three logs, whichever pair goes first
--   Examples    small logs, merged by hand
--   Statements  what is claimed of these, each with its proof of that type in
--               proofs/Statements.antt
pub mod Merge
pub mod Calls
pub mod Facts
pub mod Says
pub mod Cursors
pub mod Left
pub mod Three
pub mod Examples
pub mod Statements
