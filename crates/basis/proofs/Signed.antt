-- Laws of signed words. `omega` reads no ℤ, so every bound is one of `nat_abs`.
use Prim.Native.Nat.{ℕ, zero, suc, ◌+◌, ◌-◌, ◌*◌, ◌<◌, ◌≤◌, ◌^◌}
use mathlib.Core.Path.{◌≡◌, refl, ap, ◌∙◌}
use native.Mathlib.Omega.{arith}
use borrow.Author.Tests.{ltb-true}
use lib.Dec.{ltb, le→leb, leb→le, lt→ltb, ltb→lt}
use lib.IntN.{ℤ, pos, negsuc, neg_ℤ, nat_abs, sub_ℕ, ◌+ℤ◌, ◌-ℤ◌, ◌*ℤ◌, +ℤ_comm, +ℤ-neg_ℤ_cancel}
use lib.Signed.{mag, ◌≤ℤ◌, ◌<ℤ◌}
use mir.Syntax.{w32}
use mir.Val.{SFits, to_z, of_z}
use mir.Facts.{to_z-of_z}
use Rattle.basis.proofs.Tests.{of_cond}

-- A word as the machine reads it back.
abbrev pub read : ℤ → ℤ
read z = to_z w32 (of_z w32 z)

-- What fits is read back as it is: what a call gives, by its `.ok`, a field or an element.
pub got : (z : ℤ) → mag z < 2 ^ 31 → read z ≡ z
got z h = to_z-of_z {w = w32} (record { sfits = h })

-- What is small fits.
pub mag≤abs : (z : ℤ) → mag z ≤ nat_abs z
mag≤abs (pos n) = omega arith
mag≤abs (negsuc n) = omega arith

pub small : (z : ℤ) → nat_abs z < 2 ^ 31 → SFits w32 z
small z h = record { sfits = omega (arith, mag≤abs z) }

-- The triangle inequality, of a sum and of a difference.
abs_diff : (a b : ℕ) → nat_abs (sub_ℕ a b) ≤ a + b
abs_diff a b =
    of_cond (λ z. nat_abs z ≤ a + b) (ltb a b)
    (λ e. omega (arith, ltb-true a b e)) (λ e. omega arith)

pub abs_add : (a b : ℤ) → nat_abs (a +ℤ b) ≤ nat_abs a + nat_abs b
abs_add (pos a) (pos b) = omega arith
abs_add (pos a) (negsuc b) = abs_diff a (suc b)
abs_add (negsuc a) (pos b) = omega (arith, abs_diff b (suc a))
abs_add (negsuc a) (negsuc b) = omega arith

pub abs_neg : (z : ℤ) → nat_abs (neg_ℤ z) ≡ nat_abs z
abs_neg (pos zero) = refl
abs_neg (pos (suc n)) = refl
abs_neg (negsuc n) = refl

pub abs_sub : (a b : ℤ) → nat_abs (a -ℤ b) ≤ nat_abs a + nat_abs b
abs_sub a b = omega (arith, abs_add a (neg_ℤ b), abs_neg b)

-- The size of a product.
pub abs_mul : (a b : ℤ) → nat_abs (a *ℤ b) ≡ nat_abs a * nat_abs b
abs_mul (pos a) (pos b) = refl
abs_mul (pos a) (negsuc b) = abs_neg (pos (a * suc b))
abs_mul (negsuc a) (pos b) = abs_neg (pos (suc a * b))
abs_mul (negsuc a) (negsuc b) = refl

-- A difference of numbers from 0 on.
pub pos_sub : (a b c : ℕ) → a ≡ c + b → pos a -ℤ pos b ≡ pos c
pos_sub a b c e = ap (λ n. pos n -ℤ pos b) e ∙ +ℤ-neg_ℤ_cancel (pos c) (pos b)

-- The order by differences: at most where something from 0 on is added, less where it is above 0.
pub le_add : (a : ℤ) (n : ℕ) → a ≤ℤ (a +ℤ pos n)
le_add (pos k) n = record { le = le→leb k (k + n) (omega arith) }
le_add (negsuc k) n =
    of_cond (λ z. negsuc k ≤ℤ z) (ltb n (suc k))
    (λ e. record { le = le→leb (suc k - suc n) k (omega arith) }) (λ e. record { le = tt })

pub lt_add : (a : ℤ) (n : ℕ) → a <ℤ (a +ℤ pos (suc n))
lt_add (pos k) n = record { lt = lt→ltb k (k + suc n) (omega arith) }
lt_add (negsuc k) n =
    of_cond (λ z. negsuc k <ℤ z) (ltb (suc n) (suc k))
    (λ e.
    record { lt = lt→ltb (suc k - suc (suc n)) k (omega (arith, ltb-true (suc n) (suc k) e)) })
    (λ e. record { lt = tt })

pub le_gap : (a b : ℤ) → a ≤ℤ b → (n : ℕ) × (b -ℤ a ≡ pos n)
le_gap (pos a) (pos b) h = (b - a, pos_sub b a (b - a) (omega (arith, leb→le a b h.le)))
le_gap (pos a) (negsuc b) h = absurd h.le
le_gap (negsuc a) (pos b) h = (b + suc a, refl)
le_gap (negsuc a) (negsuc b) h = (
  a - b,
  +ℤ_comm (negsuc b) (pos (suc a))
      ∙ pos_sub (suc a) (suc b) (a - b) (omega (arith, leb→le b a h.le)),
)

pub lt_gap : (a b : ℤ) → a <ℤ b → (n : ℕ) × (b -ℤ a ≡ pos (suc n))
lt_gap (pos a) (pos b) h =
    (b - suc a, pos_sub b a (suc (b - suc a)) (omega (arith, ltb→lt a b h.lt)))
lt_gap (pos a) (negsuc b) h = absurd h.lt
lt_gap (negsuc a) (pos b) h = (b + a, ap pos (omega arith))
lt_gap (negsuc a) (negsuc b) h = (
  a - suc b,
  +ℤ_comm (negsuc b) (pos (suc a))
      ∙ pos_sub (suc a) (suc b) (suc (a - suc b)) (omega (arith, ltb→lt b a h.lt)),
)

-- Two numbers from 0 to m differ by m at most.
pub abs_apart : (a b : ℕ) {m : ℕ} → a ≤ m → b ≤ m → nat_abs (pos a -ℤ pos b) ≤ m
abs_apart a zero h k = omega arith
abs_apart a (suc b) {m} h k =
    of_cond (λ z. nat_abs z ≤ m) (ltb a (suc b))
    (λ e. omega (arith, ltb-true a (suc b) e)) (λ e. omega arith)

pub abs_zero : (z : ℤ) → nat_abs z ≡ 0 → z ≡ pos 0
abs_zero (pos n) e = ap pos e
abs_zero (negsuc n) e = absurd (omega arith)

-- What is no farther from 0 than n is at most n.
pub abs_le : (z : ℤ) (n : ℕ) → nat_abs z ≤ n → z ≤ℤ pos n
abs_le (pos k) n h = record { le = le→leb k n h }
abs_le (negsuc k) n h = record { le = tt }
