-- Laws of the yard, for the crates above:
--   Cases       a test and its two cases; what `if !call(..)` says
--   Signed      signed words: what is small, what is read back
--   Every       a test of every number below a bound
--   Squares     free, by covered cells and by unit squares
--   Fits        rule 9's parts, both ways; the facts that functions over a world require
--   Brake       what the brake takes off, and when a speed is 0 (02 §2)
--   Limits      the table's bound 12, speeds within 200
--   Walk        the move along one axis, for any `free`
--   Soundness   the state rule as facts; a step keeps it, for any `free`
--   Statements  the statements of specs/Statements.antt
pub mod Cases
pub mod Signed
pub mod Every
pub mod Squares
pub mod Fits
pub mod Brake
pub mod Limits
pub mod Walk
pub mod Soundness
pub mod Statements
