-- Laws of little-endian numbers, once over the width.
use Prim.Native.Nat.{ℕ, zero, suc, ◌+◌, ◌*◌, ◌/◌, ◌%◌, ◌^◌, ◌<◌, ◌≤◌}
use mathlib.Core.Path.{◌≡◌, refl, ap}
use mathlib.Core.List.{List, [], ◌∷◌, ◌++◌}
use native.Mathlib.Nat.{pow-zero, pow-succ', mul_assoc}
use native.Mathlib.Numerals.{add-one}
use native.Mathlib.Omega.{arith}
use lib.ListN.{length, take, drop, get_or}
use lib.Seq.{drop-cons, get_or-drop, take-add, drop-drop}
use lib.Dec.{lit<}
use Rattle.basis.proofs.Lists.{length_part}
use Rattle.basis.specs.LittleEndian.{value_of, little_endian, Bytes}

pub bytes_take : (n : ℕ) (list : List ℕ) → Bytes list → Bytes (take n list)
bytes_take zero list h i = lit< tt
bytes_take (suc n) [] h i = lit< tt
bytes_take (suc n) (x ∷ list) h zero = h 0
bytes_take (suc n) (x ∷ list) h (suc i) = bytes_take n list (λ k. h (suc k)) i

pub bytes_drop : (n : ℕ) (list : List ℕ) → Bytes list → Bytes (drop n list)
bytes_drop n list h i = rw get_or-drop (h (n + i))

pub long : (width x : ℕ) → length (little_endian width x) ≡ width
long zero x = refl
long (suc width) x = ap suc (long width (x / 256))

pub are_bytes : (width x : ℕ) → Bytes (little_endian width x)
are_bytes zero x i = lit< tt
are_bytes (suc width) x zero = omega arith
are_bytes (suc width) x (suc i) = are_bytes width (x / 256) i

pub read_back : (width x : ℕ) → x < 256 ^ width → value_of (little_endian width x) ≡ x
read_back zero x h = omega (arith, pow-zero 256)
read_back (suc width) x h =
    let high : value_of (little_endian width (x / 256)) ≡ x / 256 =
    read_back width (x / 256) (omega (arith, pow-succ' 256 width)) in
    omega arith

pub written_back : (list : List ℕ) → Bytes list → little_endian (length list) (value_of list) ≡ list
written_back [] h = refl
written_back (byte ∷ rest) h =
    let low : byte < 256 = h 0 in
    let first : (byte + 256 * value_of rest) % 256 ≡ byte = omega arith in
    let others : (byte + 256 * value_of rest) / 256 ≡ value_of rest = omega arith in
    rw (first, others, written_back rest (λ i. h (suc i)))

pub below : (list : List ℕ) → Bytes list → value_of list < 256 ^ length list
below [] h = omega (arith, pow-zero 256)
below (byte ∷ rest) h =
    let high : value_of rest < 256 ^ length rest = below rest (λ i. h (suc i)) in
    omega (arith, h 0, pow-succ' 256 (length rest))

-- The value of bytes that stand one after the other.
pub joined : (low high : List ℕ)
    → value_of (low ++ high) ≡ value_of low + 256 ^ length low * value_of high
joined [] high = omega (arith, pow-zero 256)
joined (byte ∷ low) high =
    let rest : value_of (low ++ high) ≡ value_of low + 256 ^ length low * value_of high =
    joined low high in
    let scaled : 256 * 256 ^ length low * value_of high ≡ 256 * (256 ^ length low * value_of high) =
    mul_assoc 256 (256 ^ length low) (value_of high) in
    rw pow-succ' (omega arith)

-- The value of a part, from its first byte and the rest.
pub one_more : (n i : ℕ) (list : List ℕ) → i < length list
    → value_of (take (suc n) (drop i list))
    ≡ get_or list i 0 + 256 * value_of (take n (drop (suc i) list))
one_more n i list h = rw (drop-cons list i 0)

-- The value of a part of two bytes.
pub two_bytes : (i : ℕ) (list : List ℕ) → i + 2 ≤ length list
    → value_of (take 2 (drop i list)) ≡ get_or list i 0 + 256 * get_or list (i + 1) 0
two_bytes i list h =
    omega (
      arith,
      one_more 1 i list (omega arith),
      one_more 0 (suc i) list (omega arith),
      let e : get_or list (i + 1) 0 ≡ get_or list (suc i) 0 = rw add-one in e,
    )

-- The value of a part of four bytes, by twos.
pub four_bytes : (i : ℕ) (list : List ℕ) → i + 4 ≤ length list
    → value_of (take 4 (drop i list))
    ≡ value_of (take 2 (drop i list)) + 65536 * value_of (take 2 (drop (i + 2) list))
four_bytes i list h =
    let two : length (take 2 (drop i list)) ≡ 2 = length_part 2 i list (omega arith) in
    rw (
      take-add 2 2 (drop i list),
      joined (take 2 (drop i list)) (take 2 (drop 2 (drop i list))),
      two,
      drop-drop 2 i list,
    )
