-- The appeal, proved by the model `course`.
--   Held        what a session of the model holds; the merge of the logs of two
--   Statements  the statement of specs/Statements.antt
pub mod Held
pub mod Statements
