-- The quotient rounded down, and the remainder that it leaves.
use Prim.Native.Nat.{ℕ, suc, ◌+◌, ◌-◌, ◌*◌, ◌/◌, ◌%◌, ◌≤◌}
use mathlib.Core.Path.{◌≡◌, refl, sym, ap, subst, ◌∙◌}
use mathlib.Core.List.{[], ◌∷◌}
use native.Mathlib.Omega.{arith}
use lib.Dec.{le→leb}
use lib.IntN.{ℤ, pos, negsuc, nat_abs, ◌+ℤ◌, ◌-ℤ◌, ◌*ℤ◌, neg_ℤ-neg_ℤ, +ℤ_comm}
use lib.Signed.{shr_z, ◌≤ℤ◌, ◌<ℤ◌}
use Rattle.basis.proofs.Ring.{solve, #, num, ◌⊕◌, ◌⊖◌, ◌⊗◌, no_difference}
use Rattle.basis.proofs.Signed.{pos_sub, abs_mul, abs_apart, abs_zero, abs_le}
use Rattle.basis.proofs.Signed.{le_add, lt_add, le_gap, lt_gap}
use Rattle.load.specs.Step.{D, quotient}
use Rattle.load.specs.Energy.{remainder}
use Rattle.load.specs.Statements.{RoundedDown}

-- Of a number from 0 on, and of one below 0.
left_over : (z : ℤ) → (n : ℕ) × (z -ℤ pos 1024 *ℤ shr_z z 1024 ≡ pos n) × (n ≤ 1023)
left_over (pos a) =
    (a % 1024, pos_sub a (1024 * (a / 1024)) (a % 1024) (omega arith), omega arith)
left_over (negsuc a) =
    let n = 1024 * suc (a / 1024) in (
      1023 - a % 1024,
      ap (λ w. negsuc a +ℤ w) (neg_ℤ-neg_ℤ (pos n))
          ∙ +ℤ_comm (negsuc a) (pos n)
          ∙ pos_sub n (suc a) (1023 - a % 1024) (omega arith),
      omega arith,
    )

-- The remainder is a number from 0 to 1,023.
pub remains : (p : ℕ) (x : ℤ) → (n : ℕ) × (remainder p x ≡ pos n) × (n ≤ 1023)
unfolding quotient
remains p x = left_over (pos p *ℤ x)

-- Whatever q leaves a remainder from 0 to 1,023 is the quotient.
one_quotient : (z q k : ℤ) (n m : ℕ) → z -ℤ pos 1024 *ℤ q ≡ pos n → z -ℤ pos 1024 *ℤ k ≡ pos m
    → n ≤ 1023 → m ≤ 1023 → q ≡ k
one_quotient z q k n m e f h g =
    let same : pos 1024 *ℤ (q -ℤ k) ≡ pos m -ℤ pos n =
    solve (z ∷ q ∷ k ∷ []) (num (pos 1024) ⊗ (# 1 ⊖ # 2))
    ((# 0 ⊖ num (pos 1024) ⊗ # 2) ⊖ (# 0 ⊖ num (pos 1024) ⊗ # 1)) refl
    ∙ rw (e, f) in
    let size : nat_abs (pos 1024 *ℤ (q -ℤ k)) ≤ 1023 =
    subst (λ w. nat_abs w ≤ 1023) (sym same) (abs_apart m n g h) in
    no_difference q k (abs_zero (q -ℤ k) (omega (arith, size, abs_mul (pos 1024) (q -ℤ k))))

-- The next multiple of D is above.
above : (z q : ℤ) (n : ℕ) → z -ℤ pos 1024 *ℤ q ≡ pos n → n ≤ 1023
    → pos 1024 *ℤ (q +ℤ pos 1) ≡ z +ℤ pos (suc (1023 - n))
above z q n e h =
    solve (z ∷ q ∷ []) (num (pos 1024) ⊗ (# 1 ⊕ num (pos 1)))
    (# 0 ⊕ (num (pos 1024) ⊖ (# 0 ⊖ num (pos 1024) ⊗ # 1))) refl
    ∙ rw e (ap (λ w. z +ℤ w) (pos_sub 1024 n (suc (1023 - n)) (omega arith)))

-- D·q ≤ z < D·(q + 1) says that the remainder is from 0 to 1,023.
fits_between : (z q : ℤ) → (pos 1024 *ℤ q) ≤ℤ z → z <ℤ (pos 1024 *ℤ (q +ℤ pos 1))
    → (n : ℕ) × (z -ℤ pos 1024 *ℤ q ≡ pos n) × (n ≤ 1023)
fits_between z q low high =
    let (n, e) = le_gap (pos 1024 *ℤ q) z low in
    let (m, f) = lt_gap z (pos 1024 *ℤ (q +ℤ pos 1)) high in
    let sum : pos (n + suc m) ≡ pos 1024 =
    ap (λ w. pos n +ℤ w) (sym f)
    ∙ ap (λ w. w +ℤ (pos 1024 *ℤ (q +ℤ pos 1) -ℤ z)) (sym e)
    ∙ solve (z ∷ q ∷ [])
    ((# 0 ⊖ num (pos 1024) ⊗ # 1) ⊕ (num (pos 1024) ⊗ (# 1 ⊕ num (pos 1)) ⊖ # 0))
    (num (pos 1024)) refl in
    (n, e, omega (arith, ap nat_abs sum))

pub rounded : (p : ℕ) (x : ℤ) → RoundedDown p x
rounded p x =
    let z = pos p *ℤ x in
    let q = quotient p x in
    let (n, e, small) = remains p x in
    record {
      low =
          subst (λ w. (pos D *ℤ q) ≤ℤ w)
          (ap (λ w. pos D *ℤ q +ℤ w) (sym e)
          ∙ solve (z ∷ q ∷ [])
          (num (pos 1024) ⊗ # 1 ⊕ (# 0 ⊖ num (pos 1024) ⊗ # 1)) (# 0) refl)
          (le_add (pos D *ℤ q) n);
      high = subst (λ w. z <ℤ w) (sym (above z q n e small)) (lt_add z (1023 - n));
      only = λ k low high.
          let (m, f, few) = fits_between z k low high in
          one_quotient z k q m n f e few small;
      remainder = (
        subst (λ w. pos 0 ≤ℤ w) (sym e) (record { le = le→leb 0 n (omega arith) }),
        subst (λ w. w ≤ℤ pos 1023) (sym e) (abs_le (pos n) 1023 small),
      );
    }
