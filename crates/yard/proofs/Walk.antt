-- Laws of the move along one axis, for any `free`.
use Prim.Native.Nat.{ℕ, zero, suc, ◌+◌, ◌-◌, ◌<◌, ◌≤◌}
use mathlib.Core.Path.{◌≡◌, sym, ap, ◌∙◌}
use mathlib.Core.Bool.{Bool, true, false}
use mathlib.Core.Logic.{⊎_elim}
use native.Mathlib.Nat.{eq-or-lt_of_le}
use native.Mathlib.Omega.{arith}
use lib.Dec.{ltb}
use lib.IntN.{ℤ, pos, negsuc, nat_abs, +ℤ_idr}
use Rattle.std.specs.Prelude.{Option, None, Some, MatchOption, unwrap_or}
use Rattle.basis.proofs.Tests.{never}
use Rattle.yard.specs.declared.levers.Axis.{Axis}
use Rattle.yard.specs.declared.levers.Axis.TheVariants.{X, Y}
use Rattle.yard.specs.Levers.{along}
use Rattle.yard.specs.Slide.{toward, clear_on, walk, distance, slide}
use Rattle.yard.specs.Statements.{Walked}
use Rattle.yard.proofs.Cases.{of_cond}
use Rattle.yard.proofs.Signed.{abs_add, abs_sub}

-- The place so many units on.
pub toward_abs : (speed from : ℤ) (units : ℕ)
    → nat_abs (toward speed from units) ≤ nat_abs from + units
unfolding toward
toward_abs (pos n) from units = abs_add from (pos units)
toward_abs (negsuc n) from units = abs_sub from (pos units)

toward_here : (speed from : ℤ) → toward speed from 0 ≡ from
unfolding toward
toward_here (pos n) from = +ℤ_idr from
toward_here (negsuc n) from = +ℤ_idr from

module _ (clear : ℕ → Bool) where
  -- The walk ends within its units, at a place that is clear where its start is.
  walk_most : (k n : ℕ) → walk clear k n ≤ k + n
  unfolding walk
  walk_most k zero = omega arith
  walk_most k (suc n) =
      of_cond (λ r. r ≤ k + suc n) (clear (k + 1))
      (λ e. omega (arith, walk_most (k + 1) n)) (λ e. omega arith)

  walk_clear : (k n : ℕ) → clear k ≡ true → clear (walk clear k n) ≡ true
  unfolding walk
  walk_clear k zero h = h
  walk_clear k (suc n) h =
      of_cond (λ r. clear r ≡ true) (clear (k + 1)) (λ e. walk_clear (k + 1) n e) (λ e. h)

  -- Every unit moved is clear, and where units are left the next is not.
  walk_passed : (k n j : ℕ) → k < j → j ≤ walk clear k n → clear j ≡ true
  unfolding walk
  walk_passed k zero j l = λ h. absurd (omega arith)
  walk_passed k (suc n) j l =
      of_cond (λ r. j ≤ r → clear j ≡ true) (clear (k + 1))
      (λ e h.
      let next : k + 1 ≤ j = omega arith in
      ⊎_elim (λ q. ap clear (sym q) ∙ e) (λ m. walk_passed (k + 1) n j m h) (eq-or-lt_of_le next))
      (λ e h. absurd (omega arith))

  walk_blocked : (k n : ℕ) → walk clear k n < k + n → clear (walk clear k n + 1) ≡ false
  unfolding walk
  walk_blocked k zero = λ h. absurd (omega arith)
  walk_blocked k (suc n) =
      of_cond (λ r. r < k + suc n → clear (r + 1) ≡ false) (clear (k + 1))
      (λ e h. walk_blocked (k + 1) n (omega arith)) (λ e h. e)

-- The same of a move along an axis.
pub on_abs : (axis : Axis) (x y : ℤ) {b : ℕ} → nat_abs x ≤ b → nat_abs y ≤ b
    → nat_abs (along axis x y) ≤ b
on_abs X x y hx hy = hx
on_abs Y x y hx hy = hy

module _ (free : ℤ → ℤ → Bool) (axis : Axis) (speed x y : ℤ) where
  pub distance_most : distance free axis speed x y ≤ nat_abs speed
  unfolding distance
  distance_most = omega (arith, walk_most (clear_on free axis speed x y) 0 (nat_abs speed))

  pub slide_within : nat_abs (slide free axis speed x y).speed ≤ nat_abs speed
  unfolding slide
  slide_within =
      of_cond (λ z. nat_abs z ≤ nat_abs speed)
      (ltb (distance free axis speed x y) (nat_abs speed)) (λ e. omega arith) (λ e. omega arith)

  -- The distance is walked as the statement says, and no other number is.
  pub walked : Walked free axis speed x y (distance free axis speed x y)
  unfolding distance
  walked =
      let clear = clear_on free axis speed x y in
      record {
        most = distance_most;
        passed = walk_passed clear 0 (nat_abs speed);
        stopped = λ h. walk_blocked clear 0 (nat_abs speed) (omega arith);
      }

  not_less : {m n : ℕ} → Walked free axis speed x y m → Walked free axis speed x y n → ¬ (m < n)
  not_less {m} w z l =
      never (z.passed (m + 1) (omega arith) (omega arith)) (w.stopped (omega arith))

  pub only : (units : ℕ) → Walked free axis speed x y units → units ≡ distance free axis speed x y
  only units w = omega (arith, not_less w walked, not_less walked w)

  -- A search for the last unit before one that is not clear.
  pub searched : (most : ℕ) → most ≡ nat_abs speed → (met : Option ℕ)
      → MatchOption met
      ((k : ℕ) → 0 ≤ k → k < most → clear_on free axis speed x y (k + 1) ≡ true)
      (λ units.
      (0 ≤ units) × (units < most)
      × (clear_on free axis speed x y (units + 1) ≡ false)
      × ((k : ℕ) → 0 ≤ k → k < units → clear_on free axis speed x y (k + 1) ≡ true))
      → unwrap_or met most ≡ distance free axis speed x y
  searched most e None h =
      only most
      (record {
        most = omega arith;
        passed = λ k l m.
            let same : k - 1 + 1 ≡ k = omega arith in
            rw same at (h (k - 1) (omega arith) (omega arith));
        stopped = λ l. absurd (omega arith);
      })
  searched most e (Some units) (low, fewer, blocked, clear) =
      only units
      (record {
        most = omega arith;
        passed = λ k l m.
            let same : k - 1 + 1 ≡ k = omega arith in
            rw same at (clear (k - 1) (omega arith) (omega arith));
        stopped = λ l. blocked;
      })

-- A move from a place that is free ends at one.
pub slide_x_free : (free : ℤ → ℤ → Bool) (speed x y : ℤ) → free x y ≡ true
    → free (slide free X speed x y).at y ≡ true
unfolding slide distance clear_on
slide_x_free free speed x y h =
    walk_clear (clear_on free X speed x y) 0 (nat_abs speed) (rw (toward_here speed x) h)

pub slide_y_free : (free : ℤ → ℤ → Bool) (speed x y : ℤ) → free x y ≡ true
    → free x (slide free Y speed x y).at ≡ true
unfolding slide distance clear_on
slide_y_free free speed x y h =
    walk_clear (clear_on free Y speed x y) 0 (nat_abs speed) (rw (toward_here speed y) h)
