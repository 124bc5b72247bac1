-- Document 01, 'The program'. Read in this order:
--   Rerun       what a log comes to in the practice yard
--   Ascii       a text as bytes
--   Text        the lines that are written
--   Statements  what is claimed of these, each with its proof of that type in
--               proofs/Statements.antt
pub mod Rerun
pub mod Ascii
pub mod Text
pub mod Statements
