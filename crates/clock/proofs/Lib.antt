-- Laws of the clock, for the crates above; each over any step length.
--   Sound       a sound clock, as facts
--   Ticks       the fresh clock, the clock after a reading, the steps due
--   Readings    the four outcomes of a reading, each exactly when
--   Histories   a list of readings: soundness, the accepted ones, cut time, grouping
--   Examples    readings to which grouping applies
--   Statements  the statements of specs/Statements.antt
pub mod Sound
pub mod Ticks
pub mod Readings
pub mod Histories
pub mod Examples
pub mod Statements
