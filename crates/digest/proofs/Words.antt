-- Laws of the bytes of words: two's complement as the machine has it, one word more, reading back.
use Prim.Native.Nat.{ℕ, zero, suc, ◌*◌, ◌^◌, ◌<◌}
use mathlib.Core.Path.{◌≡◌, refl}
use mathlib.Core.List.{List, [], ◌∷◌, ◌++◌}
use native.Mathlib.Omega.{arith}
use lib.Dec.{lit<}
use lib.IntN.{ℤ, pos, negsuc}
use lib.ListN.{length}
use mir.Syntax.{w32}
use mir.Val.{SFits, of_z, to_z}
use mir.Facts.{to_z-of_z}
use Rattle.basis.specs.LittleEndian.{value_of, Bytes}
use Rattle.basis.proofs.LittleEndian.{read_back as value-back}
use Rattle.digest.specs.Fnv.{fnv}
use Rattle.digest.specs.Words.{twos_complement, word_bytes, bytes_of_words}

-- Two's complement is the bits that the machine holds.
pub machine_bits : (word : ℤ) → of_z w32 word ≡ twos_complement word
machine_bits (pos n) = refl
machine_bits (negsuc n) = refl

-- It has 32 bits.
pub bits_below : (word : ℤ) → SFits w32 word → twos_complement word < 2 ^ 32
bits_below (pos n) f = omega (arith, f.sfits)
bits_below (negsuc n) f = omega (arith, f.sfits)

-- One word more.
pub one_more : (value : ℕ) (words : List ℤ) (word : ℤ)
    → fnv value (bytes_of_words (words ++ (word ∷ [])))
    ≡ fnv (fnv value (bytes_of_words words)) (word_bytes word)
unfolding fnv bytes_of_words
one_more value [] word = refl
one_more value (first ∷ words) word = one_more (fnv value (word_bytes first)) words word

-- Every i32 is read back from its bytes.
pub read_back : (word : ℤ) → SFits w32 word → to_z w32 (value_of (word_bytes word)) ≡ word
read_back word f =
    rw (value-back 4 (twos_complement word) (bits_below word f), ← machine_bits) (to_z-of_z f)

-- Words have four bytes each,
pub four_each : (words : List ℤ) → length (bytes_of_words words) ≡ 4 * length words
unfolding bytes_of_words
four_each [] = refl
four_each (word ∷ words) = omega (arith, four_each words)

-- every one of them below 256.
pub all_bytes : (words : List ℤ) → Bytes (bytes_of_words words)
unfolding bytes_of_words
all_bytes [] i = lit< tt
all_bytes (word ∷ rest) zero = omega arith
all_bytes (word ∷ rest) (suc zero) = omega arith
all_bytes (word ∷ rest) (suc (suc zero)) = omega arith
all_bytes (word ∷ rest) (suc (suc (suc zero))) = omega arith
all_bytes (word ∷ rest) (suc (suc (suc (suc i)))) = all_bytes rest i
