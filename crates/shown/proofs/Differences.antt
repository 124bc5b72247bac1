-- Sums of signed fractions over one denominator, each as one difference that is rounded.
-- Rounding keeps the order of such differences.
use Prim.Native.Nat.{ℕ, ◌+◌, ◌-◌, ◌*◌, ◌<◌, ◌≤◌, zero-le}
use native.Mathlib.Nat.{le_refl, zero-lt-suc, add-zero, zero-add, sub-zero, mul-one, mul_comm}
use native.Mathlib.Nat.{mul-sub, mul-le-mul_right, mul-lt-mul_of_pos_right}
use native.Mathlib.Omega.{arith}
use mathlib.Core.Path.{◌≡◌, refl, sym}
use mathlib.Core.Bool.{Bool, true, false, not, cond}
use borrow.Author.Tests.{ltb-true, ltb-false, lt-ltb, le-ltb}
use lib.Dec.{T, ltb}
use lib.Ieee.{Float, nan, inf, fin, Format, round, sum, le, is_nan}
use lib.Ieee.Bits.{is_true}
use lib.Ieee.Order.{round_mono}
use lib.Ieee.Scale.{round_same}
use Rattle.shown.proofs.Rounding.{twins, le_below, le_across}

-- x / c - y / c, rounded.
abbrev pub difference : Format → ℕ → ℕ → ℕ → Float
difference f x y c = sum f false x true y c

rises : (f : Format) (x y c : ℕ) → y ≤ x → difference f x y c ≡ round f false (x - y) c
unfolding sum
rises f x y c h = rw (le-ltb x y h)

falls : (f : Format) (x y c : ℕ) → x < y → difference f x y c ≡ round f true (y - x) c
unfolding sum
falls f x y c h = rw (lt-ltb x y h)

-- Rounding keeps the order.
pub keeps : (f : Format) (x y x' y' c : ℕ) → 0 < c → x + y' ≤ x' + y
    → le (difference f x y c) (difference f x' y' c) ≡ true
keeps f x y x' y' c C h = is_true _ (go (ltb x y) (ltb x' y') refl refl)
  where
    mono : (a b : ℕ) → a ≤ b → T (le (round f false a c) (round f false b c))
    mono a b h = round_mono f a c b c C C (mul-le-mul_right c h)

    go : (t t' : Bool) → ltb x y ≡ t → ltb x' y' ≡ t'
        → T (le (difference f x y c) (difference f x' y' c))
    go false false e e' =
        rw (rises f x y c (ltb-false x y e), rises f x' y' c (ltb-false x' y' e'))
        (mono (x - y) (x' - y') (omega arith))
    go true false e e' =
        rw (falls f x y c (ltb-true x y e), rises f x' y' c (ltb-false x' y' e'))
        (le_across (twins f (y - x) c) (twins f (x' - y') c))
    go true true e e' =
        rw (falls f x y c (ltb-true x y e), falls f x' y' c (ltb-true x' y' e'))
        (le_below (twins f (y - x) c) (twins f (y' - x') c) (mono (y' - x') (y - x) (omega arith)))
    go false true e e' = absurd (omega (arith, ltb-false x y e, ltb-true x' y' e'))

-- A rounded difference is no NaN.
pub number : (f : Format) (x y c : ℕ) → 0 < c → is_nan (difference f x y c) ≡ false
number f x y c C = go (difference f x y c) (keeps f x y x y c C (le_refl (x + y)))
  where
    go : (z : Float) → le z z ≡ true → is_nan z ≡ false
    go nan e = unfold le is_nan in sym e
    go (inf s) e = unfold is_nan in refl
    go (fin s m d) e = unfold is_nan in refl

-- s·a is plus s a - minus s a.
abbrev pub plus : Bool → ℕ → ℕ
plus false a = a
plus true a = 0

abbrev pub minus : Bool → ℕ → ℕ
minus s a = plus (not s) a

-- A sum is a difference, where its first part is no negative zero.
pub sum_is : (f : Format) (s t : Bool) (a b c : ℕ) → (T s → 0 < a)
    → sum f s a t b c ≡ difference f (plus s a + plus t b) (minus s a + minus t b) c
unfolding sum
sum_is f false false a b c h = rw (rises f (a + b) 0 c zero-le, sub-zero)
sum_is f false true a b c h = rw (add-zero, zero-add)
sum_is f true true a b c h = rw (falls f 0 (a + b) c (omega (arith, h tt)), sub-zero)
sum_is f true false a b c h = rw (add-zero, zero-add) (go (ltb a b) (ltb b a) refl refl)
  where
    go : (t u : Bool) → ltb a b ≡ t → ltb b a ≡ u
        → cond t (round f false (b - a) c) (round f u (a - b) c)
        ≡ cond u (round f true (a - b) c) (round f false (b - a) c)
    go true true e e' = absurd (omega (arith, ltb-true a b e, ltb-true b a e'))
    go true false e e' = refl
    go false true e e' = refl
    go false false e e' =
        let same : a ≡ b = omega (arith, ltb-false a b e, ltb-false b a e') in
        rw same

off : (a b g : ℕ) → a * g - b * g ≡ (a - b) * g
off a b g = rw (mul_comm a g, mul_comm b g, ← mul-sub, mul_comm g (a - b))

over : (f : Format) (s : Bool) (n g : ℕ) → 0 < g → round f s (n * g) g ≡ round f s n 1
over f s n g G = round_same f s (n * g) g n 1 G (zero-lt-suc 0) (mul-one (n * g))

-- The difference of two whole numbers, over any denominator g, is x - y.
module _ (f : Format) (x y g : ℕ) (G : 0 < g) where
  pub rises_over : y ≤ x → difference f (x * g) (y * g) g ≡ round f false (x - y) 1
  rises_over h =
      let is = rises f (x * g) (y * g) g (mul-le-mul_right g h) in
      rw (is, off x y g) (over f false (x - y) g G)

  pub falls_over : x < y → difference f (x * g) (y * g) g ≡ round f true (y - x) 1
  falls_over h =
      let is = falls f (x * g) (y * g) g (mul-lt-mul_of_pos_right h G) in
      rw (is, off y x g) (over f true (y - x) g G)

  -- That is a whole number t·k.
  pub one_number : (t : Bool) × (k : ℕ) × (k ≤ x + y) × (plus t k + y ≡ minus t k + x)
      × (difference f (x * g) (y * g) g ≡ round f t k 1)
  one_number = go (ltb x y) refl
    where
      go : (u : Bool) → ltb x y ≡ u → (t : Bool) × (k : ℕ) × (k ≤ x + y)
          × (plus t k + y ≡ minus t k + x) × (difference f (x * g) (y * g) g ≡ round f t k 1)
      go false e =
          let h : y ≤ x = ltb-false x y e in
          (false, x - y, omega arith, omega arith, rises_over h)
      go true e =
          let h : x < y = ltb-true x y e in
          (true, y - x, omega arith, omega arith, falls_over h)
