-- Document 01, 'Digest and shown place': 'The digest is FNV-1a, 32 bits'. `bit_xor` is exclusive-or,
-- binary digit by binary digit.
use Rattle.std.specs.Prelude.{ℕ, ◌*◌, ◌%◌, ◌^◌, List, [], ◌∷◌}
use Rattle.std.specs.Int.Bits.{bit_xor}

-- 'start 2166136261'
abbrev pub START : ℕ
START = 2166136261

-- 'multiply by 16777619'
abbrev pub PRIME : ℕ
PRIME = 16777619

-- 'exclusive-or into the low byte, then multiply by 16777619 modulo 2^32'
unfoldable pub with_byte : ℕ → ℕ → ℕ
with_byte value byte = (bit_xor value byte * PRIME) % 2 ^ 32

-- 'for each byte', from any value on: a digest can be continued.
unfoldable pub fnv : ℕ → List ℕ → ℕ
fnv value [] = value
fnv value (byte ∷ rest) = fnv (with_byte value byte) rest

-- The digest of a list of bytes.
abbrev pub digest_of : List ℕ → ℕ
digest_of list = fnv START list
