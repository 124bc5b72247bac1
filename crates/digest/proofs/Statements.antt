-- The statements of specs/Statements.antt, proved.
use Prim.Native.Nat.{ℕ}
use mathlib.Core.Path.{◌≡◌, refl, ap}
use lib.Dec.{lit<}
use Rattle.basis.proofs.Order.{one_outcome}
use Rattle.digest.specs.declared.Digest.{Digest}
use Rattle.digest.specs.Fnv.{START}
use Rattle.digest.specs.Statements.{Fnv1a, WordBytes, Determined}
use Rattle.digest.proofs.Fnv.{low_byte, below, continued}
use Rattle.digest.proofs.Words.{four_each, all_bytes, read_back}

pub fnv1a : Fnv1a
fnv1a =
    record {
      low_byte = low_byte;
      below = λ list. below START list (lit< tt);
      continued = continued;
    }

pub word_bytes : WordBytes
word_bytes =
    record {
      four = four_each;
      bytes = all_bytes;
      read_back = read_back;
      minus_one = refl;
    }

-- No two digests have one value.
one_value : (a b : Digest) → a.value ≡ b.value → a ≡ b
one_value a b e = ap (λ (n : ℕ). record { value = n }) e

pub determined : Determined
determined =
    record {
      started = one_outcome one_value;
      of_state = λ steps state. one_outcome one_value;
      bytes = λ digest bytes. one_outcome one_value;
      word = λ digest word. one_outcome one_value;
      words = λ digest words. one_outcome one_value;
    }
