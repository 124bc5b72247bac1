-- What every rule of document 01 is said with. Read in this order:
--   Numbers       the numbers given back, and the limits, by name
--   Order         an order of refusals, the answer that it comes to; one outcome of a contract
--   Filled        what a call answers and leaves that may change one slice alone
--   LittleEndian  a number and its bytes, the least first, at any width
--   Refusal       a refusal of the code and its number, and what a call answers
--   Statements    what is claimed of these, each with its proof of that type in
--                 proofs/Statements.antt
pub mod Numbers
pub mod Order
pub mod Filled
pub mod LittleEndian
pub mod Refusal
pub mod Statements
