-- Two stations, one log (document 02, §9), of the words and bytes that the calls of `session` and
-- `merge` leave. Read in this order:
--   Delivered   the records delivered to a session; a session that ends as replay of a log
--   Statements  `Appeal`, which proofs/Statements.antt proves
pub mod Delivered
pub mod Statements
