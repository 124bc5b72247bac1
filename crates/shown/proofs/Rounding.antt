-- Rounding below zero mirrors rounding above it, and keeps a bound that is a whole number.
use Prim.Native.Nat.{ℕ, zero, suc, ◌+◌, ◌*◌, ◌^◌, ◌<◌, ◌≤◌}
use native.Mathlib.Nat.{le_of_eq, le_of_lt, eq-zero-or-pos, eq-or-lt_of_le, zero-lt-suc, mul-one}
use native.Mathlib.Nat.{mul_right_comm, mul-mul-mul_comm, mul-pos, mul-le-mul_left}
use native.Mathlib.Nat.{le_of_mul-le-mul_right}
use native.Mathlib.Omega.{arith}
use mathlib.Core.Path.{◌≡◌, refl, sym}
use mathlib.Core.Logic.Iff
use mathlib.Core.Logic.{inl, inr, ⊎_elim}
use mathlib.Core.Bool.{Bool, true, false, ◌&&◌, ◌||◌, cond, or-true}
use borrow.Author.Tests.{lt-ltb, eq-eqb}
use lib.IntN.{ℤ}
use lib.Dec.{T, ltb, eqb}
use lib.Ieee.{Float, inf, fin, Format, prec, emax, low, up, down, unlike, odd, units, round, mul}
use lib.Ieee.{le}
use lib.Ieee.Bits.{is_true}
use lib.Ieee.Fits.{down_pos}
use lib.Ieee.Order.{round_mono}
use Rattle.basis.proofs.Tests.{says_lt, says_eq, says_two, says_either}
use Rattle.shown.proofs.Values.{Exactly, exactly, AtMost, at_most, of_whole}

-- A float for each sign, of one size.
pub data Twins : (Bool → Float) → Type 0 where
  infinite : Twins inf
  finite : {m : ℕ} {e : ℤ} → Twins (λ s. fin s m e)

unit_twins : (f : Format) (q k : ℕ) → Twins (λ s. units f s q k)
unfolding units odd
unit_twins f q k = go (ltb (q * 2 ^ k) (2 ^ (low f + suc (emax f)))) q
  where
    go : (t : Bool) (q : ℕ) → Twins (λ s. cond t (odd (suc (prec f)) s q k (low f)) (inf s))
    go true zero = finite
    go true (suc q) = finite
    go false q = infinite

pub twins : (f : Format) (a b : ℕ) → Twins (λ s. round f s a b)
unfolding round
twins f a b = unit_twins f _ _

-- The order of two floats, by their sizes over one denominator.
of_le : (a b : ℕ) → T (ltb a b || (eqb a b && true)) → a ≤ b
of_le a b h =
    ⊎_elim le_of_lt (λ e. le_of_eq e.0)
    ((says_either (says_lt a b) (says_two (says_eq a b) Iff.rfl)).0 (is_true _ h))

to_ge : (a b : ℕ) → b ≤ a → T (ltb b a || (eqb a b && true))
to_ge a b h = elim (eq-or-lt_of_le h) [
  | inl e ↦ rw (eq-eqb a b (sym e), or-true) tt
  | inr l ↦ rw (lt-ltb b a l) tt
]

apart : (a b : ℕ) → T (ltb 0 (a + b) || (eqb a b && eqb a 0))
apart a b = elim (eq-zero-or-pos (a + b)) [
  | inl e ↦
      let none : a ≡ 0 = omega arith in
      let neither : b ≡ 0 = omega arith in
      rw (none, neither) tt
  | inr h ↦ rw (lt-ltb 0 (a + b) h) tt
]

-- Below zero the order turns round.
pub le_below : {x y : Bool → Float} → Twins x → Twins y
    → T (le (y false) (x false)) → T (le (x true) (y true))
unfolding le
le_below infinite infinite h = tt
le_below infinite finite h = tt
le_below finite infinite h = absurd h
le_below (finite {m = m} {e = e}) (finite {m = n} {e = d}) h =
    to_ge (m * up e * down d) (n * up d * down e) (of_le (n * up d * down e) (m * up e * down d) h)

-- A float below zero is at most one above it.
pub le_across : {x y : Bool → Float} → Twins x → Twins y → T (le (x true) (y false))
unfolding le
le_across infinite infinite = tt
le_across infinite finite = tt
le_across finite infinite = tt
le_across (finite {m = m} {e = e}) (finite {m = n} {e = d}) =
    apart (m * up e * down d) (n * up d * down e)

under : {x : Bool → Float} {y : Float} {n : ℕ} → Twins x → Exactly false n y → T (le (x false) y)
    → (s : Bool) → AtMost s n (x s)
unfolding le
under infinite (exactly p) h s = absurd h
under {n = n} (finite {m = m} {e = e}) (exactly {m = k} {e = d} p) h s =
    let cross : m * up e * down d ≤ n * down e * down d =
    rw (mul_right_comm n (down e), ← p) (of_le (m * up e * down d) (k * up d * down e) h) in
    at_most (le_of_mul-le-mul_right cross (down_pos d))

-- A fraction of at most n, rounded, is at most n.
pub of_round : (f : Format) (s : Bool) (a b n : ℕ) → 0 < b → n ≤ 2 ^ prec f → a ≤ n * b
    → AtMost s n (round f s a b)
of_round f s a b n B N h =
    under (twins f a b) (of_whole f false n N)
    (round_mono f a b n 1 B (zero-lt-suc 0) (rw mul-one h)) s

-- A whole number k times at most j.
pub of_mul : (f : Format) {s : Bool} {k j : ℕ} {x y : Float} → k * j ≤ 2 ^ prec f
    → Exactly s k x → AtMost false j y → AtMost s (k * j) (mul f x y)
unfolding mul
of_mul f {s} {k} {j} h (exactly {m = m} {e = e} p) (at_most {m = n} {e = d} q) =
    let some = mul-pos (down_pos e) (down_pos d) in
    rw (plain s)
    (of_round f s (m * up e * (n * up d)) (down e * down d) (k * j) some h
    (rw (mul-mul-mul_comm k j, ← p) (mul-le-mul_left (m * up e) q)))
  where
    plain : (s : Bool) → unlike s false ≡ s
    plain true = refl
    plain false = refl
