-- Laws of levers and speeds: every push is within 12, every new speed within 200.
use Prim.Native.Nat.{ℕ, zero, suc, ◌≤◌}
use mathlib.Core.Path.{◌≡◌, refl}
use mathlib.Core.Bool.{Bool, true, ◌&&◌}
use mathlib.Core.List.{List, [], ◌∷◌}
use native.Mathlib.Omega.{arith}
use borrow.Author.Tests.{ltb-false, leb-true}
use lib.Dec.{leb, ltb, eqb}
use lib.IntN.{ℤ, pos, negsuc, nat_abs}
use lib.ListN.{get_or}
use Rattle.basis.proofs.Tests.{and_left, and_right}
use Rattle.yard.specs.declared.levers.Axis.{Axis}
use Rattle.yard.specs.declared.levers.Axis.TheVariants.{X, Y}
use Rattle.yard.specs.declared.levers.Push.{Push}
use Rattle.yard.specs.Levers.{along, push, pushes, push_of, cut_speed, new_speed}
use Rattle.yard.proofs.Cases.{of_cond}
use Rattle.yard.proofs.Brake.{abs_brake}
use Rattle.yard.proofs.Signed.{words}

-- A test that every entry of a list passes, as does what stands for a missing one, at any index.
abbrev all : {A : Type 0} → (A → Bool) → List A → Bool
all test [] = true
all test (a ∷ list) = test a && all test list

all_at : {A : Type 0} (test : A → Bool) (list : List A) (other : A) → all test list ≡ true
    → test other ≡ true → (k : ℕ) → test (get_or list k other) ≡ true
all_at test [] other e d k = d
all_at test (a ∷ list) other e d zero = and_left (test a) (all test list) e
all_at test (a ∷ list) other e d (suc k) =
    all_at test list other (and_right (test a) (all test list) e) d k

-- The bound 12, by one test over the table.
within12 : Push → Bool
within12 p = leb (nat_abs p.x) 12 && leb (nat_abs p.y) 12

table : (lever : ℕ) → within12 (push_of lever) ≡ true
unfolding within12 push_of
table = all_at within12 pushes (push (pos 0) (pos 0)) refl refl

pub push_within : (axis : Axis) (lever : ℕ)
    → nat_abs (along axis (push_of lever).x (push_of lever).y) ≤ 12
unfolding within12
push_within X lever =
    leb-true _ 12 (and_left _ (leb (nat_abs (push_of lever).y) 12) (table lever))
push_within Y lever =
    leb-true _ 12 (and_right (leb (nat_abs (push_of lever).x) 12) _ (table lever))

-- For a new speed.
pub ruleset speeds = (words, push_within)

-- A speed that is cut is within 200.
cut_within : (z : ℤ) → nat_abs (cut_speed z) ≤ 200
unfolding cut_speed
cut_within (pos n) =
    of_cond (λ z. nat_abs z ≤ 200) (ltb 200 n) (λ e. omega arith)
    (λ e. omega (arith, ltb-false 200 n e))
cut_within (negsuc n) =
    of_cond (λ z. nat_abs z ≤ 200) (ltb 199 n) (λ e. omega arith)
    (λ e. omega (arith, ltb-false 199 n e))

-- A new speed is within 200 where the old one is.
pub speed_within : (axis : Axis) (lever : ℕ) (old : ℤ) → nat_abs old ≤ 200
    → nat_abs (new_speed axis lever old) ≤ 200
unfolding new_speed
speed_within axis lever old h =
    of_cond (λ z. nat_abs z ≤ 200) (eqb lever 9) (λ e. omega (arith, abs_brake old))
    (λ e. cut_within _)
