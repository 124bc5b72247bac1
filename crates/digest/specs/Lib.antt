-- Document 01, 'Digest and shown place', the digest. Read in this order:
--   Fnv         FNV-1a of 32 bits over a list of bytes, from its start or continued
--   Words       the bytes of words, and of a session: two's complement, little-endian
--   Says        the contract of each public entry, by name
--   Statements  what is claimed of these; proofs/Statements.antt proves each record whole
pub mod Fnv
pub mod Words
pub mod Says
pub mod Statements
