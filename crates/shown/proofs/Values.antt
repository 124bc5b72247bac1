-- Finite floats by their sign and size, and what each operation makes of them: the exact result,
-- rounded. A sign is negative where it is true.
use Prim.Native.Nat.{ℕ, ◌*◌, ◌^◌, ◌<◌, ◌≤◌}
use native.Mathlib.Nat.{mul-one, mul_comm, mul_assoc, mul_left_comm, mul-pos, mul-le-mul_right}
use native.Mathlib.Omega.{arith}
use mathlib.Core.Path.{◌≡◌}
use mathlib.Core.Bool.{Bool, false, not}
use borrow.Author.Tests.{ne_eqb}
use lib.IntN.{ℤ}
use lib.Ieee.{Float, nan, inf, fin, Format, prec, up, down, round, sum, neg, add, div}
use lib.Ieee.Fits.{down_pos}
use lib.Ieee.Exact.{HasValue}
use lib.Ieee.Back.{round_whole}
use lib.Ieee.Scale.{round_same}
use lib.Ieee.Positive.{first_pos}

-- The float is the whole number n, with the sign s.
pub data Exactly (s : Bool) (n : ℕ) : Float → Type 0 where
  exactly : {m : ℕ} {e : ℤ} → m * up e ≡ n * down e → Exactly s n (fin s m e)

-- The float has the sign s and is at most n in size.
pub data AtMost (s : Bool) (n : ℕ) : Float → Type 0 where
  at_most : {m : ℕ} {e : ℤ} → m * up e ≤ n * down e → AtMost s n (fin s m e)

-- Up to 2 ^ prec no whole number is rounded.
pub of_whole : (f : Format) (s : Bool) (n : ℕ) → n ≤ 2 ^ prec f → Exactly s n (round f s n 1)
of_whole f s n h = go (round f s n 1) (round_whole f s n h)
  where
    go : (x : Float) → HasValue x s n 1 → Exactly s n x
    go nan v = absurd v
    go (inf t) v = absurd v
    go (fin t m e) v = rw v.0 (exactly (rw mul-one at v.1))

pub of_neg : {s : Bool} {n : ℕ} {x : Float} → Exactly s n x → Exactly (not s) n (neg x)
unfolding neg
of_neg (exactly p) = exactly p

-- A sum, over some denominator g.
pub add_exactly : (f : Format) {s t : Bool} {a b : ℕ} {x y : Float} → Exactly s a x → Exactly t b y
    → (g : ℕ) × (0 < g) × (add f x y ≡ sum f s (a * g) t (b * g) g)
unfolding add
add_exactly f {a = a} {b = b} (exactly {m = m} {e = e} p) (exactly {m = n} {e = d} q) =
    let some = mul-pos (down_pos e) (down_pos d) in
    (down e * down d, some, rw (p, q, mul_assoc a, mul_assoc b, mul_comm (down d)))

pub add_at_most : (f : Format) {s t : Bool} {a n : ℕ} {x y : Float} → Exactly s a x → AtMost t n y
    → (b : ℕ) × (g : ℕ) × (0 < g) × (b ≤ n * g) × (add f x y ≡ sum f s (a * g) t b g)
unfolding add
add_at_most f {a = a} {n = n} (exactly {m = m} {e = e} p) (at_most {m = k} {e = d} q) = (
  k * up d * down e,
  down e * down d,
  mul-pos (down_pos e) (down_pos d),
  rw (mul_comm (down e), ← mul_assoc) (mul-le-mul_right (down e) q),
  rw (p, mul_assoc a),
)

cross : (r l e d : ℕ) → r * e * d * l ≡ r * (l * d * e)
cross r l e d = simp (mul_assoc, mul_comm, mul_left_comm)

pub div_exactly : (f : Format) {r l : ℕ} {x y : Float} → 0 < l
    → Exactly false r x → Exactly false l y → div f x y ≡ round f false r l
unfolding div
div_exactly f {r} {l} L (exactly {m = m} {e = e} p) (exactly {m = n} {e = d} q) =
    let some : 0 < n * up d = rw q (mul-pos L (down_pos d)) in
    let divisor : 0 < n = first_pos n (up d) some in
    rw (ne_eqb n 0 (λ z. omega arith))
    (round_same f false (m * up e * down d) (n * up d * down e) r l (mul-pos some (down_pos e)) L
    (rw (p, q) (cross r l (down e) (down d))))
