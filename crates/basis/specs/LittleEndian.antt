-- A number and its bytes, the least first, at any width.
use Rattle.std.specs.Prelude.{ℕ, zero, suc, ◌+◌, ◌*◌, ◌/◌, ◌%◌, ◌<◌, List, [], ◌∷◌, get_or}

-- The number whose bytes these are.
abbrev pub value_of : List ℕ → ℕ
value_of [] = 0
value_of (byte ∷ rest) = byte + 256 * value_of rest

-- The bytes of a number, as many as the width says.
abbrev pub little_endian : ℕ → ℕ → List ℕ
little_endian zero x = []
little_endian (suc width) x = x % 256 ∷ little_endian width (x / 256)

-- Every element is a byte.
abbrev pub Bytes : List ℕ → Type 0
Bytes list = (i : ℕ) → get_or list i 0 < 256
