-- The program of `wuthracomb merge` (document 02, §9). Read in this order:
--   Written     what two logs come to, and what is written
--   Statements  what is claimed of these, each with its proof of that type in
--               proofs/Statements.antt
pub mod Written
pub mod Statements
