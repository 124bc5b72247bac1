-- A number that a format holds, rounded, is itself; and 0.0 added to it changes -0.0 alone.
use Prim.Native.Nat.{ℕ, zero, suc, ◌+◌, ◌-◌, ◌*◌, ◌/◌, ◌^◌, ◌%◌, ◌<◌, ◌≤◌}
use native.Mathlib.Nat.{mul-one, one-mul, zero-mul, mul_comm, mul_assoc, mul_right_comm, add-zero}
use native.Mathlib.Nat.{sub-zero, zero-lt-suc, mul-pos}
use native.Mathlib.Nat.{not-le_of_lt, mul-lt-mul_of_pos_right, lt_of_mul-lt-mul_right}
use native.Mathlib.Omega.{arith}
use mathlib.Core.Path.{◌≡◌, refl, sym, ap, subst, ◌∙◌}
use mathlib.Core.Logic.{◌⊎◌, ◌≢◌, inl, inr, ⊎_elim}
use mathlib.Core.Bool.{Bool, true, false, cond, ◌&&◌, beq}
use borrow.Author.Tests.{le-ltb, lt-ltb, ltb-false, ltb-true, eq-eqb}
use lib.Dec.{T, lit<, ltb, leb, eqb, ltb→lt, leb→le}
use lib.IntN.{ℤ, pos, negsuc}
use lib.Pow.{pow-add, pow_pos, pow-lt}
use lib.Ieee.{Float, nan, inf, fin, Format, binary64, prec, emax, low, hid, top, up, down, size}
use lib.Ieee.{fits, round, sum, add, eq, to_bits, of_bits}
use lib.Ieee.Bits.{of_bits-to_bits}
use lib.Ieee.Exact.{HasValue, round_exact}
use lib.Ieee.Fits.{and_l, and_r, up_pos, down_pos, round-fits}
use Rattle.std.specs.Float.{float_is_finite}
use lib.Ieee.Nearest.{div_same}
use Rattle.basis.proofs.Tests.{never}
use Rattle.rope.specs.Forces.{plus_zero, minus_zero}

-- 2 ^ e is 2 ^ j of the format's smallest values.
scale : (f : Format) (e : ℤ) → down e ≤ 2 ^ low f
    → (j : ℕ) × (up e * 2 ^ low f ≡ 2 ^ j * down e)
scale f (pos k) h = (k + low f, sym (mul-one (2 ^ (k + low f)) ∙ pow-add 2 k (low f)))
scale f (negsuc k) h =
    let deep : suc k ≤ low f = go (ltb (low f) (suc k)) refl in (
      low f - suc k,
      one-mul (2 ^ low f) ∙ ap (λ n. 2 ^ n) (omega arith) ∙ pow-add 2 (low f - suc k) (suc k),
    )
  where
    go : (b : Bool) → ltb (low f) (suc k) ≡ b → suc k ≤ low f
    go true e = absurd (not-le_of_lt (pow-lt (ltb-true (low f) (suc k) e)) h)
    go false e = ltb-false (low f) (suc k) e

-- Rounded, it has its own value.
value : (f : Format) (s : Bool) (m : ℕ) (e : ℤ) → T (fits f (fin s m e))
    → HasValue (round f s (m * up e) (down e)) s (m * up e) (down e)
unfolding fits
value f s zero e h =
    round_exact f s (0 * up e) (down e) 0 0 (down_pos e) (pow_pos (prec f))
    (pow_pos (low f + suc (emax f)))
    (ap (λ n. n * 2 ^ low f) (zero-mul (up e)) ∙ zero-mul (2 ^ low f) ∙ sym (zero-mul (down e)))
value f s (suc m) e h =
    let a = eqb (suc m % 2) 1 in
    let b = ltb (suc m) (2 ^ prec f) in
    let c = leb (down e) (2 ^ low f) in
    let d = ltb (suc m * up e) (2 ^ suc (emax f) * down e) in
    let abc = and_l (a && b && c) d h in
    let small = ltb→lt (suc m) (2 ^ prec f) (and_r a b (and_l (a && b) c abc)) in
    let deep = leb→le (down e) (2 ^ low f) (and_r (a && b) c abc) in
    let under = ltb→lt (suc m * up e) (2 ^ suc (emax f) * down e) (and_r (a && b && c) d h) in
    let (j, is) = scale f e deep in
    let units : suc m * up e * 2 ^ low f ≡ suc m * 2 ^ j * down e =
    mul_assoc (suc m) (up e) (2 ^ low f) ∙ ap (λ n. suc m * n) is
    ∙ sym (mul_assoc (suc m) (2 ^ j) (down e)) in
    let most : 2 ^ suc (emax f) * down e * 2 ^ low f ≡ 2 ^ (low f + suc (emax f)) * down e =
    mul_right_comm (2 ^ suc (emax f)) (down e) (2 ^ low f)
    ∙ ap (λ n. n * down e)
    (mul_comm (2 ^ suc (emax f)) (2 ^ low f) ∙ sym (pow-add 2 (low f) (suc (emax f)))) in
    let fine = mul-lt-mul_of_pos_right under (pow_pos (low f)) in
    round_exact f s (suc m * up e) (down e) (suc m) j (down_pos e) small
    (lt_of_mul-lt-mul_right (down e) (rw (units, most) at fine)) units

-- The bits of a finite number, by its sign and its size in smallest values.
bits : Format → Bool → ℕ → ℕ
bits f s n = cond s (top f) 0 + (size n - prec f) * hid f + n / 2 ^ (size n - prec f)

bits_of : (f : Format) (x : Float) (s : Bool) (a c : ℕ) → 0 < c → HasValue x s a c
    → to_bits f x ≡ bits f s (a * 2 ^ low f / c)
unfolding to_bits bits
bits_of f nan s a c C v = absurd v
bits_of f (inf t) s a c C v = absurd v
bits_of f (fin t m e) s a c C (same, is) =
    ap (λ u. bits f u (m * up e * 2 ^ low f / down e)) same
    ∙ ap (bits f s)
    (div_same (m * up e * 2 ^ low f) (down e) (a * 2 ^ low f) c (down_pos e) C
    (mul_right_comm (m * up e) (2 ^ low f) c ∙ ap (λ n. n * 2 ^ low f) is
    ∙ mul_right_comm a (down e) (2 ^ low f)))

-- A number of a value is written in one way.
one_way : (f : Format) (x y : Float) (s : Bool) (a c : ℕ) → 0 < c → T (fits f x) → T (fits f y)
    → HasValue x s a c → HasValue y s a c → x ≡ y
one_way f x y s a c C p q v w =
    sym (of_bits-to_bits f x p) ∙ ap (of_bits f) (bits_of f x s a c C v ∙ sym (bits_of f y s a c C w))
    ∙ of_bits-to_bits f y q

-- Rounded, it is itself.
rounded : (f : Format) (s : Bool) (m : ℕ) (e : ℤ) → T (fits f (fin s m e))
    → round f s (m * up e) (down e) ≡ fin s m e
rounded f s m e h =
    one_way f (round f s (m * up e) (down e)) (fin s m e) s (m * up e) (down e) (down_pos e)
    (round-fits f s (m * up e) (down e)) h (value f s m e h) (refl, refl)

-- What is equal bit for bit is equal in IEEE 754, unless it is a NaN.
eq_itself : (x : Float) → float_is_finite x ≡ true → eq x x ≡ true
unfolding eq float_is_finite
eq_itself nan h = never h refl
eq_itself (inf s) h = never h refl
eq_itself (fin s m e) h = simp (eq-eqb (m * up e * down e) (m * up e * down e) refl, same s)
  where
    same : (s : Bool) → beq s s ≡ true
    same true = refl
    same false = refl

-- 0.0 added to a finite number.
adds_zero : (f : Format) (s : Bool) (m : ℕ) (e : ℤ)
    → add f (fin s m e) plus_zero ≡ sum f s (m * up e) false 0 (down e)
unfolding add
adds_zero f s m e =
    ap (λ n. sum f s (m * up e * 1) false n (down e * 1)) (zero-mul (down e))
    ∙ ap (λ n. sum f s n false 0 (down e * 1)) (mul-one (m * up e))
    ∙ ap (sum f s (m * up e) false 0) (mul-one (down e))

-- -0.0 is written in one way.
no_size : (f : Format) (e : ℤ) → T (fits f (fin true 0 e)) → fin true 0 e ≡ minus_zero
unfolding fits
no_size f e h =
    one_way f (fin true 0 e) minus_zero true 0 1 (lit< tt) h tt
    (refl, mul-one (0 * up e) ∙ zero-mul (up e) ∙ sym (zero-mul (down e))) (refl, refl)

-- A finite number is -0.0, or 0.0 added to it leaves it as it is.
module _ (f : Format) where
  plus_zero_is : (x : Float) → T (fits f x) → float_is_finite x ≡ true
      → (x ≡ minus_zero) ⊎ (add f x plus_zero ≡ x)
  unfolding sum float_is_finite
  plus_zero_is nan h n = never n refl
  plus_zero_is (inf s) h n = never n refl
  plus_zero_is (fin false m e) h n =
      inr
      (adds_zero f false m e ∙ ap (λ a. round f false a (down e)) (add-zero (m * up e))
      ∙ rounded f false m e h)
  plus_zero_is (fin true zero e) h n = inl (no_size f e h)
  plus_zero_is (fin true (suc m) e) h n =
      let some : 0 < suc m * up e = mul-pos (zero-lt-suc m) (up_pos e) in
      inr
      (adds_zero f true (suc m) e
      ∙ rw (le-ltb (suc m * up e) 0 (omega arith), lt-ltb 0 (suc m * up e) some, sub-zero)
      (rounded f true (suc m) e h))

pub from_minus_zero : add binary64 minus_zero plus_zero ≡ plus_zero
unfolding add
from_minus_zero = refl

zeros : eq (add binary64 minus_zero plus_zero) minus_zero ≡ true
unfolding add eq
zeros = refl

module _ (x : Float) (held : fits binary64 x ≡ true) (number : float_is_finite x ≡ true) where
  is : (x ≡ minus_zero) ⊎ (add binary64 x plus_zero ≡ x)
  is = plus_zero_is binary64 x (subst T (sym held) tt) number

  pub kept : x ≢ minus_zero → add binary64 x plus_zero ≡ x
  kept other = ⊎_elim (λ e. absurd (other e)) (λ e. e) is

  pub keeps_value : eq (add binary64 x plus_zero) x ≡ true
  keeps_value =
      ⊎_elim (λ e. subst (λ y. eq (add binary64 y plus_zero) y ≡ true) (sym e) zeros)
      (λ e. ap (λ y. eq y x) e ∙ eq_itself x number) is
