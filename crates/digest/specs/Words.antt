-- Document 01, 'Digest and shown place': which bytes the digest of a session is over.
use Rattle.std.specs.Prelude.{ℕ, suc, ◌-◌, ◌^◌, List, [], ◌∷◌, ◌++◌, ℤ, pos, negsuc}
use Rattle.basis.specs.LittleEndian.{little_endian}

-- 'i32, two's complement': from 0 up the number itself; `negsuc n`, -(n + 1), down from 2^32.
abbrev pub twos_complement : ℤ → ℕ
twos_complement (pos n) = n
twos_complement (negsuc n) = 2 ^ 32 - suc n

-- The four bytes of one word, 'little-endian'.
abbrev pub word_bytes : ℤ → List ℕ
word_bytes word = little_endian 4 (twos_complement word)

-- 'each state word (i32, two's complement)', one after the other.
unfoldable pub bytes_of_words : List ℤ → List ℕ
bytes_of_words [] = []
bytes_of_words (word ∷ rest) = word_bytes word ++ bytes_of_words rest

-- 'steps made (u32), then each state word (i32, two's complement), all little-endian'
abbrev pub state_bytes : ℕ → List ℤ → List ℕ
state_bytes steps state = little_endian 4 steps ++ bytes_of_words state
