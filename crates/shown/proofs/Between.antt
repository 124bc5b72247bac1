-- The shown coordinate is p where nothing is added to it, and lies between p and c.
-- The step c - p is exact. alpha is at most 1, so the product is at most the step in size; the
-- exact sum then lies between p and c, and rounding keeps the order.
use Prim.Native.Nat.{ℕ, suc, ◌+◌, ◌*◌, ◌^◌, ◌<◌, ◌≤◌, zero-le}
use native.Mathlib.Nat.{zero-lt-suc, sub-zero, add-zero, zero-add, mul-one, one-mul, mul-zero}
use native.Mathlib.Nat.{zero-mul, add-mul, mul-pos, le_trans, mul-le-mul_left, mul-le-mul_right}
use native.Mathlib.Omega.{arith}
use mathlib.Core.Path.{◌≡◌, refl, sym, ap, ◌∙◌}
use mathlib.Core.Bool.{Bool, true, false, not, ◌||◌, or-true}
use lib.IntN.{ℤ, pos, negsuc, nat_abs}
use lib.Dec.{T, lit≤}
use lib.Ieee.{Float, binary64, of_int, of_bits, round, sum, add, sub, mul, is_nan}
use Rattle.basis.specs.Numbers.{step_length}
use Rattle.shown.specs.Blend.{whole, alpha_of, blend_of, is_within, is_between}
use Rattle.shown.proofs.Values.{Exactly, AtMost, of_whole, of_neg, add_exactly, add_at_most}
use Rattle.shown.proofs.Values.{div_exactly}
use Rattle.shown.proofs.Rounding.{of_round, of_mul}
use Rattle.shown.proofs.Differences.{difference, keeps, number, plus, minus, sum_is}
use Rattle.shown.proofs.Differences.{rises_over, falls_over, one_number}

-- Up to here every whole number is an f64.
abbrev pub most : ℕ
most = 2 ^ 53

-- The bits of 20000.0, the length of a step, are those of the whole number.
pub step_bits : of_bits binary64 4671226772094713856 ≡ whole (pos step_length)
unfolding of_int of_bits
step_bits = refl

-- A whole number z is high z - low z.
abbrev sign : ℤ → Bool
sign (pos n) = false
sign (negsuc n) = true

abbrev high : ℤ → ℕ
high z = plus (sign z) (nat_abs z)

abbrev low : ℤ → ℕ
low z = minus (sign z) (nat_abs z)

size : (z : ℤ) → high z + low z ≡ nat_abs z
size (pos n) = add-zero n
size (negsuc n) = zero-add (suc n)

exact : (z : ℤ) → nat_abs z ≤ most → Exactly (sign z) (nat_abs z) (whole z)
unfolding of_int
exact (pos n) h = of_whole binary64 false n h
exact (negsuc n) h = of_whole binary64 true (suc n) h

whole_is : (z : ℤ) (g : ℕ) → 0 < g → whole z ≡ difference binary64 (high z * g) (low z * g) g
unfolding of_int
whole_is (pos n) g G = rw (rises_over binary64 n 0 g G zero-le, sub-zero)
whole_is (negsuc n) g G = rw (falls_over binary64 0 (suc n) g G (zero-lt-suc n), sub-zero)

plus_over : (s : Bool) (a g : ℕ) → plus s (a * g) ≡ plus s a * g
plus_over false a g = refl
plus_over true a g = sym (zero-mul g)

-- A whole number and t·b / g, added.
sum_whole : (z : ℤ) (t : Bool) (b g : ℕ) → 0 < g → sum binary64 (sign z) (nat_abs z * g) t b g
    ≡ difference binary64 (high z * g + plus t b) (low z * g + minus t b) g
sum_whole z t b g G = sum_is binary64 (sign z) t (nat_abs z * g) b g (some z) ∙ simp plus_over
  where
    some : (z : ℤ) → T (sign z) → 0 < nat_abs z * g
    some (pos n) t = absurd t
    some (negsuc n) t = mul-pos (zero-lt-suc n) G

-- c - p is t·k.
abbrev Step : ℤ → ℤ → Bool → ℕ → Type 0
Step p c t k = plus t k + (low c + high p) ≡ minus t k + (high c + low p)

no_step : (p c : ℤ) (t : Bool) (k : ℕ) → p ≡ c → Step p c t k → k ≡ 0
no_step p c false k same s = omega (arith, ap high same, ap low same)
no_step p c true k same s = omega (arith, ap high same, ap low same)

plus_not_not : (s : Bool) (a : ℕ) → plus (not (not s)) a ≡ plus s a
plus_not_not false a = refl
plus_not_not true a = refl

sum_step : (p c : ℤ) (g : ℕ) → 0 < g
    → sum binary64 (sign c) (nat_abs c * g) (not (sign p)) (nat_abs p * g) g
    ≡ difference binary64 ((high c + low p) * g) ((low c + high p) * g) g
sum_step p c g G =
    sum_whole c (not (sign p)) (nat_abs p * g) g G ∙ simp (plus_over, plus_not_not, add-mul)

-- The step is exact.
step : (p c : ℤ) → nat_abs p + nat_abs c ≤ most → (t : Bool) × (k : ℕ) × (k ≤ nat_abs p + nat_abs c)
    × Step p c t k × (sub binary64 (whole c) (whole p) ≡ round binary64 t k 1)
unfolding sub
step p c room =
    let of-p = of_neg (exact p (omega arith)) in
    let (g, G, is) = add_exactly binary64 (exact c (omega arith)) of-p in
    let (t, k, bound, s, one) = one_number binary64 (high c + low p) (low c + high p) g G in
    (t, k, omega (arith, size p, size c), s, is ∙ sum_step p c g G ∙ one)

-- p and at most t·n, added: the exact sum, over some denominator g.
added : (p : ℤ) (t : Bool) {n : ℕ} {y : Float} → nat_abs p ≤ most → AtMost t n y
    → (b : ℕ) × (g : ℕ) × (0 < g) × (b ≤ n * g)
    × (add binary64 (whole p) y
    ≡ difference binary64 (high p * g + plus t b) (low p * g + minus t b) g)
added p t h v =
    let (b, g, G, bound, is) = add_at_most binary64 (exact p h) v in
    (b, g, G, bound, is ∙ sum_whole p t b g G)

nothing : (t : Bool) → plus t 0 ≡ 0
nothing false = refl
nothing true = refl

-- Where nothing is added, p stays: a zero too, whatever the sign of the nothing.
stays : (p : ℤ) (t : Bool) {y : Float} → nat_abs p ≤ most → AtMost t 0 y
    → add binary64 (whole p) y ≡ whole p
stays p t h v =
    let (b, g, G, bound, is) = added p t h v in
    let none : b ≡ 0 = omega (arith, zero-mul g) in
    is ∙ simp (none, nothing, add-zero) (sym (whole_is p g G))

within : (a b : ℤ) (x y g : ℕ) → 0 < g → high a * g + y ≤ x + low a * g
    → x + low b * g ≤ high b * g + y → is_within a b (difference binary64 x y g) ≡ true
within a b x y g G above below =
    let from = keeps binary64 (high a * g) (low a * g) x y g G above in
    let to = keeps binary64 x y (high b * g) (low b * g) g G below in
    rw (whole_is a g G, whole_is b g G, from, to)

-- What lies from c up to p lies between them too.
downward : (p c : ℤ) (x : Float) → is_within c p x ≡ true → is_between p c x ≡ true
downward p c x e = ap (λ b. is_within p c x || b) e ∙ or-true (is_within p c x)

-- Where at most the step is added, the sum lies between p and c.
lies : (p c : ℤ) (t : Bool) (k : ℕ) {y : Float} → nat_abs p ≤ most → Step p c t k → AtMost t k y
    → is_between p c (add binary64 (whole p) y) ≡ true
lies p c false k h s v =
    let (b, g, G, bound, is) = added p false h v in
    let scaled = simp add-mul at (ap (λ n. n * g) s) in
    rw (is, within p c (high p * g + b) (low p * g + 0) g G (omega arith) (omega arith))
lies p c true k h s v =
    let (b, g, G, bound, is) = added p true h v in
    let scaled = simp add-mul at (ap (λ n. n * g) s) in
    rw is
    (downward p c _ (within c p (high p * g + 0) (low p * g + b) g G (omega arith) (omega arith)))

-- The shown coordinate.
module _ (length : ℕ) (p c : ℤ) (L : 0 < length) (fits : length ≤ most)
    (room : nat_abs p + nat_abs c ≤ most) where
  -- The product is at most j times the step, where the remainder is at most j times the length.
  moved : (remainder j : ℕ) → remainder ≤ most → j ≤ most → remainder ≤ j * length
      → (t : Bool) × (k : ℕ) × (k ≤ nat_abs p + nat_abs c) × Step p c t k
      × (k * j ≤ most → AtMost t (k * j)
      (mul binary64 (sub binary64 (whole c) (whole p)) (alpha_of length remainder)))
  moved remainder j hr hj h =
      let (t, k, hk, s, is) = step p c room in
      let alpha : AtMost false j (alpha_of length remainder) =
      rw (div_exactly binary64 L (exact (pos remainder) hr) (exact (pos length) fits))
      (of_round binary64 false remainder length j L hj h) in
      let exact-step = of_whole binary64 t k (omega arith) in
      (t, k, hk, s, λ small. rw is (of_mul binary64 small exact-step alpha))

  -- At the remainder 0 it is p.
  pub start : blend_of length p c 0 ≡ whole p
  unfolding blend_of
  start =
      let (t, k, hk, s, product) = moved 0 0 zero-le zero-le zero-le in
      let none : k * 0 ≡ 0 = mul-zero k in
      stays p t (omega arith) (rw none at (product (omega arith)))

  -- Where p is c it is p.
  pub rest : (remainder : ℕ) → remainder ≤ most → p ≡ c → blend_of length p c remainder ≡ whole p
  unfolding blend_of
  rest remainder h same =
      let once = rw (mul-one remainder) at (mul-le-mul_left remainder L) in
      let (t, k, hk, s, product) = moved remainder remainder h h once in
      let none : k * remainder ≡ 0 = rw (no_step p c t k same s) (zero-mul remainder) in
      stays p t (omega arith) (rw none at (product (omega arith)))

  -- It lies between p and c.
  pub between : (remainder : ℕ) → remainder ≤ length
      → is_between p c (blend_of length p c remainder) ≡ true
  unfolding blend_of
  between remainder h =
      let once : remainder ≤ 1 * length = rw (one-mul length) h in
      let (t, k, hk, s, product) = moved remainder 1 (omega arith) (lit≤ tt) once in
      lies p c t k (omega arith) s (rw mul-one at (product (omega (arith, mul-one k))))

  -- It is no NaN, where the remainder is at most j lengths and j such steps are at most 2 ^ 53.
  pub no_nan : (remainder j : ℕ) → remainder ≤ most → j ≤ most → remainder ≤ j * length
      → (nat_abs p + nat_abs c) * j ≤ most → is_nan (blend_of length p c remainder) ≡ false
  unfolding blend_of
  no_nan remainder j hr hj h small =
      let (t, k, hk, s, product) = moved remainder j hr hj h in
      let few : k * j ≤ most = le_trans (mul-le-mul_right j hk) small in
      let (b, g, G, bound, is) = added p t (omega arith) (product few) in
      rw is (number binary64 (high p * g + plus t b) (low p * g + minus t b) g G)
