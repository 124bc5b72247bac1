-- The change of energy in a step, exactly, and over n steps, at most.
use Prim.Native.Nat.{ℕ, ◌+◌, ◌-◌, ◌*◌, ◌≤◌}
use mathlib.Core.Path.{◌≡◌, refl, sym, ap, subst, ◌∙◌}
use mathlib.Core.List.{[], ◌∷◌}
use native.Mathlib.Nat.{mul-le-mul, add-mul, suc-mul, mul_assoc}
use native.Mathlib.Omega.{arith}
use lib.IntN.{ℤ, pos, negsuc, nat_abs, ◌+ℤ◌, ◌-ℤ◌, ◌*ℤ◌}
use Rattle.basis.proofs.Ring.{solve, #, num, ◌⊕◌, ◌⊖◌, ◌⊗◌}
use Rattle.basis.proofs.Signed.{pos_sub, abs_add, abs_sub, abs_mul, abs_le}
use Rattle.load.specs.Step.{D, quotient, speed_after, moved}
use Rattle.load.specs.Says.{StepSays}
use Rattle.load.specs.Energy.{energy, remainder, Run, none, then}
use Rattle.load.specs.Statements.{Change, Drift}
use Rattle.load.specs.declared.Load.{Load}
use Rattle.std.specs.Prelude.{Ok}
use Rattle.load.proofs.Steps.{says_stiffness, accepts}
use Rattle.load.proofs.Rounding.{remains}

-- Both equations, of D, p, x, v and q.
change_of : (p : ℕ) (load : Load) → Change p load (moved p load)
unfolding moved speed_after
change_of p load =
    let d = # 0 in
    let P = # 1 in
    let X = # 2 in
    let S = # 3 in
    let S' = S ⊖ # 4 in
    let X' = X ⊕ S' in
    let R = P ⊗ X ⊖ d ⊗ # 4 in
    let gain = (d ⊗ S' ⊗ S' ⊖ P ⊗ X' ⊗ S' ⊕ P ⊗ X' ⊗ X') ⊖ (d ⊗ S ⊗ S ⊖ P ⊗ X ⊗ S ⊕ P ⊗ X ⊗ X) in
    let values = pos D ∷ pos p ∷ load.x ∷ load.v ∷ quotient p load.x ∷ [] in
    record {
      exact =
          solve values (d ⊗ gain)
          (R ⊗ ((num (pos 2) ⊗ d ⊖ P) ⊗ S' ⊕ P ⊗ X') ⊖ R ⊗ R) refl;
      shorter = solve values gain (R ⊗ (S ⊕ S')) refl;
    }

pub change : (before : Load) (p : ℕ) (after : Load) → StepSays before p (Ok after)
    → Change p before after
change before p after says =
    subst (Change p before) (accepts p before after (sym says)).after_is (change_of p before)

-- One step that ends within m.
module _ (p m : ℕ) (load : Load) (soft : p ≤ 1024)
    (near : nat_abs (moved p load).x ≤ m) (slow : nat_abs (moved p load).v ≤ m) where
  -- (2·D - p)·v' + p·x' is within 2·D·m.
  inner : nat_abs ((pos 2 *ℤ pos D -ℤ pos p) *ℤ (moved p load).v +ℤ pos p *ℤ (moved p load).x)
      ≤ 2048 * m
  inner =
      let k : ℕ = 2048 - p in
      let x' = (moved p load).x in
      let v' = (moved p load).v in
      let f : k * nat_abs v' ≤ k * m = mul-le-mul (omega arith) slow in
      let g : p * nat_abs x' ≤ p * m = mul-le-mul (omega arith) near in
      let whole : k * m + p * m ≡ 2048 * m =
      sym (add-mul k p m) ∙ ap (λ n. n * m) (omega arith) in
      rw (pos_sub 2048 p k (omega arith))
      (omega (
        arith,
        abs_add (pos k *ℤ v') (pos p *ℤ x'),
        abs_mul (pos k) v',
        abs_mul (pos p) x',
        f,
        g,
        whole,
      ))

  -- D·(v + v') is that less the remainder, so v + v' is within 2·m.
  speeds : nat_abs (load.v +ℤ (moved p load).v) ≤ 2 * m
  unfolding moved speed_after
  speeds =
      let (n, e, few) = remains p load.x in
      let x' = (moved p load).x in
      let v' = (moved p load).v in
      let k = (pos 2 *ℤ pos D -ℤ pos p) *ℤ v' +ℤ pos p *ℤ x' in
      let same : pos D *ℤ (load.v +ℤ v') ≡ k -ℤ remainder p load.x =
      solve (pos D ∷ pos p ∷ load.x ∷ load.v ∷ quotient p load.x ∷ [])
      (# 0 ⊗ (# 3 ⊕ (# 3 ⊖ # 4)))
      (((num (pos 2) ⊗ # 0 ⊖ # 1) ⊗ (# 3 ⊖ # 4) ⊕ # 1 ⊗ (# 2 ⊕ (# 3 ⊖ # 4)))
      ⊖ (# 1 ⊗ # 2 ⊖ # 0 ⊗ # 4)) refl in
      omega (
        arith,
        abs_mul (pos D) (load.v +ℤ v'),
        ap nat_abs (same ∙ ap (λ r. k -ℤ r) e),
        abs_sub k (pos n),
        inner,
      )

  pub step_drift : nat_abs (energy p (moved p load) -ℤ energy p load) ≤ 1024 * (2 * m + 1)
  step_drift =
      let (n, e, few) = remains p load.x in
      let sum = load.v +ℤ (moved p load).v in
      let most : n * nat_abs sum ≤ 1023 * (2 * m) = mul-le-mul few speeds in
      omega (
        arith,
        ap nat_abs ((change_of p load).shorter ∙ ap (λ r. r *ℤ sum) e),
        abs_mul (pos n) sum,
        most,
      )

-- a - c = (a - b) + (b - c)
between : (a b c : ℤ) → a -ℤ c ≡ (a -ℤ b) +ℤ (b -ℤ c)
between a b c = solve (a ∷ b ∷ c ∷ []) (# 0 ⊖ # 2) ((# 0 ⊖ # 1) ⊕ (# 1 ⊖ # 2)) refl

nothing : (a : ℤ) → a -ℤ a ≡ pos 0
nothing a = solve (a ∷ []) (# 0 ⊖ # 0) (num (pos 0)) refl

-- The other way about.
turned : (a b : ℤ) → nat_abs (a -ℤ b) ≡ nat_abs (b -ℤ a)
turned a b =
    let same : a -ℤ b ≡ negsuc 0 *ℤ (b -ℤ a) =
    solve (a ∷ b ∷ []) (# 0 ⊖ # 1) (num (negsuc 0) ⊗ (# 1 ⊖ # 0)) refl in
    omega (arith, ap nat_abs same, abs_mul (negsuc 0) (b -ℤ a))

run_drift : {p m n : ℕ} {first last : Load} → Run p m n first last
    → nat_abs (energy p last -ℤ energy p first) ≤ n * (1024 * (2 * m + 1))
run_drift {p} {first = first} none = rw (nothing (energy p first)) (omega arith)
run_drift {p} {m} {first = first} {last = last} (then {n = n} {before = k} run says near slow) =
    let a = accepts p k last (sym says) in
    let one : nat_abs (energy p last -ℤ energy p k) ≤ 1024 * (2 * m + 1) =
    subst
    (λ (l : Load). nat_abs l.x ≤ m → nat_abs l.v ≤ m
    → nat_abs (energy p l -ℤ energy p k) ≤ 1024 * (2 * m + 1))
    a.after_is (step_drift p m k ((says_stiffness p).0 a.stiffness).1) near slow in
    rw (between (energy p last) (energy p k) (energy p first))
    (omega (
      arith,
      abs_add (energy p last -ℤ energy p k) (energy p k -ℤ energy p first),
      one,
      run_drift run,
      suc-mul n (1024 * (2 * m + 1)),
    ))

pub drift : (p m n : ℕ) (first last : Load) → Run p m n first last → Drift p m n first last
drift p m n first last run =
    let most : nat_abs (energy p last -ℤ energy p first) ≤ n * D * (2 * m + 1) =
    rw (mul_assoc n D (2 * m + 1)) (run_drift run) in
    record {
      up = abs_le _ _ most;
      down = abs_le _ _ (rw (turned (energy p first) (energy p last)) most);
    }
