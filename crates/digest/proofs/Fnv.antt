-- Laws of FNV-1a over a list of bytes: joined lists, one byte more, its width, the low byte.
use Prim.Native.Nat.{ℕ, ◌+◌, ◌*◌, ◌/◌, ◌%◌, ◌^◌, ◌<◌}
use mathlib.Core.Path.{◌≡◌, refl, sym, ap₂, ◌∙◌}
use mathlib.Core.List.{List, [], ◌∷◌, ◌++◌}
use native.Mathlib.Nat.{zero-add, div-add-mod', mod-lt}
use lib.Bits.{bit_xor, xor_block, xor_zero_r}
use lib.Pow.{pow_pos}
use lib.Dec.{lit<}
use Rattle.digest.specs.Fnv.{with_byte, fnv}

-- The digest of two lists joined is the first's, continued over the second.
pub continued : (value : ℕ) (list rest : List ℕ)
    → fnv value (list ++ rest) ≡ fnv (fnv value list) rest
unfolding fnv
continued value [] rest = refl
continued value (byte ∷ list) rest = continued (with_byte value byte) list rest

-- One byte more.
pub one_more : (value : ℕ) (list : List ℕ) (byte : ℕ)
    → fnv value (list ++ (byte ∷ [])) ≡ with_byte (fnv value list) byte
unfolding fnv
one_more value list byte = continued value list (byte ∷ [])

-- Continued from a number of 32 bits, a digest has 32 bits.
pub below : (value : ℕ) (list : List ℕ) → value < 2 ^ 32 → fnv value list < 2 ^ 32
unfolding fnv with_byte
below value [] h = h
below value (byte ∷ rest) h = below (with_byte value byte) rest (mod-lt _ (pow_pos 32))

-- Exclusive-or with a byte leaves all but the low byte as it was.
pub low_byte : (value byte : ℕ) → byte < 256
    → bit_xor value byte ≡ value / 256 * 256 + bit_xor (value % 256) byte
low_byte value byte h =
    ap₂ bit_xor (sym (div-add-mod' value 256)) (sym (zero-add byte))
    ∙ xor_block 8 (value / 256) 0 (value % 256) byte (mod-lt value (lit< tt)) h
    ∙ rw xor_zero_r
