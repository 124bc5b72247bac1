-- Laws of the brake (02 §2): what it takes off a speed, and when it has brought one to 0.
use Prim.Native.Nat.{ℕ, zero, suc, ◌+◌, ◌*◌, ◌-◌, ◌≤◌, ◌<◌}
use mathlib.Core.Path.{◌≡◌, refl, ap, ◌∙◌}
use native.Mathlib.Omega.{arith}
use borrow.Author.Tests.{ltb-true, ltb-false}
use lib.Dec.{ltb, le→leb, leb→le}
use lib.IntN.{ℤ, pos, negsuc, neg_ℤ, nat_abs, sub_ℕ}
use lib.Signed.{◌≤ℤ◌}
use Rattle.basis.proofs.Signed.{abs_neg, abs_zero, pos_sub}
use Rattle.basis.proofs.Tests.{of_cond}
use Rattle.yard.specs.Levers.{brake_units, brake, braked}
use Rattle.yard.specs.Ranges.{minus}

-- A difference below 0.
sub_below : (a n : ℕ) → a < suc n → sub_ℕ a (suc n) ≡ neg_ℤ (pos (suc n - a))
sub_below a n h =
    let size : suc (suc n - suc a) ≡ suc n - a = omega arith in
    of_cond (λ z. z ≡ neg_ℤ (pos (suc n - a))) (ltb a (suc n))
    (λ e. ap (λ k. neg_ℤ (pos k)) size) (λ e. absurd (omega (arith, ltb-false a (suc n) e)))

-- The brake by the sign of a speed. `n - 10` is 0 where n is below 10.
brake_pos : (n : ℕ) → brake (pos n) ≡ pos (n - brake_units)
unfolding brake
brake_pos n =
    of_cond (λ z. z ≡ pos (n - brake_units)) (ltb brake_units n)
    (λ e. pos_sub n brake_units (n - brake_units) (omega (arith, ltb-true brake_units n e)))
    (λ e. ap pos (omega (arith, ltb-false brake_units n e)))

brake_neg : (n : ℕ) → brake (negsuc n) ≡ neg_ℤ (pos (suc n - brake_units))
unfolding brake
brake_neg n =
    of_cond (λ z. z ≡ neg_ℤ (pos (suc n - brake_units))) (ltb 9 n)
    (λ e. sub_below brake_units n (omega (arith, ltb-true 9 n e)))
    (λ e. let none : 0 ≡ suc n - brake_units = omega (arith, ltb-false 9 n e) in
    ap (λ k. neg_ℤ (pos k)) none)

-- Its size, one law for both signs.
pub abs_brake : (z : ℤ) → nat_abs (brake z) ≡ nat_abs z - brake_units
abs_brake (pos n) = ap nat_abs (brake_pos n)
abs_brake (negsuc n) = ap nat_abs (brake_neg n) ∙ abs_neg (pos (suc n - brake_units))

pub ten : (z : ℤ) → 10 ≤ nat_abs z → nat_abs (brake z) + 10 ≡ nat_abs z
ten z h = omega (arith, abs_brake z)

pub past : (z : ℤ) → nat_abs z ≤ 10 → brake z ≡ pos 0
past z h = abs_zero (brake z) (omega (arith, abs_brake z))

pub forward : (z : ℤ) → pos 0 ≤ℤ z → (pos 0 ≤ℤ brake z) × (brake z ≤ℤ z)
forward (pos n) h =
    rw (brake_pos n) (
      record { le = le→leb 0 (n - brake_units) (omega arith) },
      record { le = le→leb (n - brake_units) n (omega arith) },
    )
forward (negsuc n) h = absurd h.le

-- Below 0 the order is that of the sizes, the other way round.
neg_le : (k n : ℕ) → k ≤ suc n → (negsuc n ≤ℤ neg_ℤ (pos k)) × (neg_ℤ (pos k) ≤ℤ pos 0)
neg_le zero n h = (record { le = tt }, record { le = tt })
neg_le (suc k) n h = (record { le = le→leb k n (omega arith) }, record { le = tt })

pub backward : (z : ℤ) → z ≤ℤ pos 0 → (z ≤ℤ brake z) × (brake z ≤ℤ pos 0)
backward (pos zero) h = rw (brake_pos 0) (record { le = tt }, record { le = tt })
backward (pos (suc n)) h = absurd (omega (arith, leb→le (suc n) 0 h.le))
backward (negsuc n) h = rw (brake_neg n) (neg_le (suc n - brake_units) n (omega arith))

-- Steps of braking.
abs_braked : (steps : ℕ) (z : ℤ) → nat_abs (braked steps z) ≡ nat_abs z - brake_units * steps
unfolding braked
abs_braked zero z = omega arith
abs_braked (suc steps) z = omega (arith, abs_brake (braked steps z), abs_braked steps z)

pub stands : (z : ℤ) → nat_abs z ≤ 200 → (steps : ℕ) → 20 ≤ steps → braked steps z ≡ pos 0
stands z h steps k = abs_zero (braked steps z) (omega (arith, abs_braked steps z))

-- The examples of 02 §2.
pub from_25 : (braked 1 (pos 25) ≡ pos 15) × (braked 2 (pos 25) ≡ pos 5)
    × (braked 3 (pos 25) ≡ pos 0)
unfolding brake braked
from_25 = (refl, refl, refl)

pub from_minus_3 : braked 1 (minus 3) ≡ pos 0
unfolding brake braked
from_minus_3 = refl
