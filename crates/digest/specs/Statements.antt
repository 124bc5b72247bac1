-- What is claimed of the digest. proofs/Statements.antt proves each record whole.
use Rattle.std.specs.Prelude.{ℕ, ◌+◌, ◌*◌, ◌/◌, ◌%◌, ◌^◌, ◌<◌, ◌≡◌, List, [], ◌∷◌, ◌++◌, ℤ, pos, neg_ℤ, length}
use Rattle.std.specs.Int.Bits.{bit_xor}
use Rattle.std.specs.Int.{w32}
use Rattle.std.proofs.Common.{SFits, to_z}
use Rattle.basis.specs.Order.{Determines}
use Rattle.basis.specs.LittleEndian.{value_of, Bytes}
use Rattle.digest.specs.declared.Digest.{Digest}
use Rattle.digest.specs.Fnv.{fnv, digest_of}
use Rattle.digest.specs.Words.{word_bytes, bytes_of_words}
use Rattle.digest.specs.Says.{NewSays, OfStateSays, BytesSays, WordSays, WordsSays}

-- 'The digest is FNV-1a, 32 bits'.
pub record Fnv1a : Type 0 where
  -- 'exclusive-or into the low byte': what stands above the low byte is left as it was.
  pub low_byte : (value byte : ℕ) → byte < 256
      → bit_xor value byte ≡ value / 256 * 256 + bit_xor (value % 256) byte
  -- '32 bits': every digest is below 2^32.
  pub below : (list : List ℕ) → digest_of list < 2 ^ 32
  -- The digest of joined lists is the first list's digest, continued over the second.
  pub continued : (value : ℕ) (list rest : List ℕ)
      → fnv value (list ++ rest) ≡ fnv (fnv value list) rest

-- 'each state word (i32, two's complement), all little-endian'
pub record WordBytes : Type 0 where
  -- Words are four bytes each.
  pub four : (words : List ℤ) → length (bytes_of_words words) ≡ 4 * length words
  -- What they are is bytes, each below 256.
  pub bytes : (words : List ℤ) → Bytes (bytes_of_words words)
  -- Every i32 is read back from its bytes, as the machine reads 32 bits with a sign.
  pub read_back : (word : ℤ) → SFits w32 word → to_z w32 (value_of (word_bytes word)) ≡ word
  -- The bytes of -1 are 255, four times.
  pub minus_one : word_bytes (neg_ℤ (pos 1)) ≡ 255 ∷ 255 ∷ 255 ∷ 255 ∷ []

-- 'any two outcomes allowed by it coincide', for the contract of each public entry.
pub record Determined : Type 0 where
  -- `Digest::new`
  pub started : Determines (NewSays)
  -- `Digest::of_state`
  pub of_state : (steps : ℕ) (state : List ℤ) → Determines (OfStateSays steps state)
  -- `Digest::bytes`
  pub bytes : (digest : Digest) (bytes : List ℕ) → Determines (BytesSays digest bytes)
  -- `Digest::word`
  pub word : (digest : Digest) (word : ℕ) → Determines (WordSays digest word)
  -- `Digest::words`
  pub words : (digest : Digest) (words : List ℤ) → Determines (WordsSays digest words)
