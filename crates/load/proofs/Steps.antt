-- Laws of a step: its ranges as facts, the sizes in it, and the quotient rounded down.
use Prim.Native.Nat.{ℕ, suc, ◌+◌, ◌*◌, ◌/◌, ◌≤◌}
use mathlib.Core.Path.{◌≡◌, refl, sym, ap, ap₂, ◌∙◌}
use mathlib.Core.Logic.{◌↔◌}
use mathlib.Core.Bool.{Bool, true, false, ◌&&◌, and-true}
use native.Mathlib.Nat.{mul-le-mul}
use native.Mathlib.Omega.{arith}
use borrow.Author.Tests.{ltb-true, ltb-false, leb-true, le-leb, lt-leb}
use lib.Dec.{leb, ltb}
use lib.IntN.{ℤ, pos, negsuc, nat_abs, ◌+ℤ◌, ◌-ℤ◌, ◌*ℤ◌}
use lib.Signed.{shr_z}
use mir.Syntax.{w32}
use mir.Val.{SFits, to_z}
use mir.Facts.{to_z-of_z, to_z_pos}
use Rattle.std.specs.Prelude.{Some}
use Rattle.std.specs.Ordering.{partial_le, int_cmp}
use Rattle.basis.specs.Numbers.{LOAD}
use Rattle.basis.specs.Order.{Order, check, answer, refused, accepted}
use Rattle.basis.proofs.Order.{passes, fails, gives, held, given}
use Rattle.basis.proofs.Tests.{and_both, not_left, not_right, says_le, says_two, alike}
use Rattle.basis.proofs.Signed.{read, small, abs_add, abs_sub, abs_mul}
use Rattle.load.specs.Step.{within, in_range, is_stiffness, quotient, speed_after, moved}
use Rattle.load.specs.Step.{step_order}
use Rattle.load.specs.declared.Load.{Load}

-- At most, by std's order of words: what `contains` asks at each end of a range.
abbrev orders : ℤ → ℤ → Bool
orders = partial_le (λ a b. Some (int_cmp a b))

at_most : (a b : ℕ) → orders (pos a) (pos b) ≡ leb a b
at_most a b = go (ltb a b) (ltb b a) refl refl
  where
    go : (t u : Bool) → ltb a b ≡ t → ltb b a ≡ u → orders (pos a) (pos b) ≡ leb a b
    go true u e f = rw e (sym (le-leb a b (omega (arith, ltb-true a b e))))
    go false true e f = rw (e, f) (sym (lt-leb a b (ltb-true b a f)))
    go false false e f = rw (e, f) (sym (le-leb a b (ltb-false b a f)))

-- The range, as the code tests it.
pub contains : (z : ℤ) → (orders (negsuc 32766) z && orders z (pos 32767)) ≡ within z
unfolding within
contains (pos n) = at_most n 32767
contains (negsuc n) =
    and-true _ ∙ at_most n 32766
    ∙ alike (says_le n 32766)
    (λ e. omega (arith, leb-true (suc n) 32767 e), λ h. le-leb (suc n) 32767 (omega arith))

-- The range, as facts.
abbrev pub InRange : Load → Type 0
InRange load = (nat_abs load.x ≤ 32767) × (nat_abs load.v ≤ 32767)

pub says_range : (load : Load) → (in_range load ≡ true) ↔ InRange load
unfolding in_range within
says_range load = says_two (says_le _ _) (says_le _ _)

-- A stiffness, as facts.
pub says_stiffness : (p : ℕ) → (is_stiffness p ≡ true) ↔ ((1 ≤ p) × (p ≤ 1024))
says_stiffness p = says_two (says_le _ _) (says_le _ _)

-- Behind a test with the same number, a test that fails gives it too.
behind : {A : Type 0} (n : ℕ) (rest : Order A) (s : Bool) {t : Bool} → t ≡ false
    → answer (check s n (check t n rest)) ≡ refused n
behind n rest true e = passes _ _ refl ∙ fails _ _ e
behind n rest false e = fails _ _ refl

-- The ways through a step.
module _ (p : ℕ) (load : Load) where
  pub bad_state : in_range load ≡ false → answer (step_order p load) ≡ refused LOAD
  unfolding step_order
  bad_state e = behind _ _ (is_stiffness p) e

  pub bad_stiffness : is_stiffness p ≡ false → answer (step_order p load) ≡ refused LOAD
  unfolding step_order
  bad_stiffness e = fails _ _ e

  module _ (good : is_stiffness p ≡ true) (range : in_range load ≡ true) where
    bad_step : in_range (moved p load) ≡ false → answer (step_order p load) ≡ refused LOAD
    unfolding step_order
    bad_step e = passes _ _ good ∙ passes _ _ range ∙ fails _ _ e

    pub bad_speed : within (speed_after p load) ≡ false → answer (step_order p load) ≡ refused LOAD
    unfolding in_range moved
    bad_speed e =
        bad_step (not_right (within (load.x +ℤ speed_after p load)) (within (speed_after p load)) e)

    pub bad_offset : within (load.x +ℤ speed_after p load) ≡ false
        → answer (step_order p load) ≡ refused LOAD
    unfolding in_range moved
    bad_offset e =
        bad_step (not_left (within (load.x +ℤ speed_after p load)) (within (speed_after p load)) e)

    pub moves : within (speed_after p load) ≡ true → within (load.x +ℤ speed_after p load) ≡ true
        → answer (step_order p load) ≡ accepted (moved p load)
    unfolding step_order in_range moved
    moves speed offset =
        passes _ _ good ∙ passes _ _ range ∙ passes _ _ (and_both offset speed) ∙ gives _

-- What an unrefused step says.
pub record Accepted (p : ℕ) (load after : Load) : Type 0 where
  pub stiffness : is_stiffness p ≡ true
  pub state : in_range load ≡ true
  pub step : in_range (moved p load) ≡ true
  pub after_is : moved p load ≡ after

pub accepts : (p : ℕ) (load after : Load) → answer (step_order p load) ≡ accepted after
    → Accepted p load after
unfolding step_order
accepts p load after e =
    let (stiffness, e1) = held _ _ _ e in
    let (state, e2) = held _ _ _ e1 in
    let (step, e3) = held _ _ _ e2 in
    record { stiffness = stiffness; state = state; step = step; after_is = given _ e3 }

-- A quotient rounded down is no farther from 0 than one more than the dividend's size by D.
shrunk : (z : ℤ) → nat_abs (shr_z z 1024) ≤ nat_abs z / 1024 + 1
shrunk (pos a) = omega arith
shrunk (negsuc a) = omega arith

-- v - p·x/D as the machine computes it, and v', which is that in a word.
abbrev new_difference : ℕ → Load → ℤ
new_difference p load = read load.v -ℤ read (shr_z (read (to_z w32 p *ℤ read load.x)) 1024)

abbrev pub new_speed : ℕ → Load → ℤ
new_speed p load = read (new_difference p load)

-- The sizes in a step from a state in range: all are words.
module _ (p : ℕ) (load : Load) (soft : p ≤ 1024) (range : in_range load ≡ true) where
  product_size : nat_abs (pos p *ℤ load.x) ≤ 1024 * 32767
  product_size =
      let most : p * nat_abs load.x ≤ 1024 * 32767 =
      mul-le-mul soft ((says_range load).0 range).0 in
      omega (arith, abs_mul (pos p) load.x)

  quotient_size : nat_abs (quotient p load.x) ≤ 32768
  unfolding quotient
  quotient_size = omega (arith, product_size, shrunk (pos p *ℤ load.x))

  speed_size : nat_abs (speed_after p load) ≤ 65535
  unfolding speed_after
  speed_size =
      omega (
        arith,
        abs_sub load.v (quotient p load.x),
        quotient_size,
        ((says_range load).0 range).1,
      )

  pub product_fits : SFits w32 (pos p *ℤ load.x)
  product_fits = small _ (omega (arith, product_size))

  pub quotient_fits : SFits w32 (quotient p load.x)
  quotient_fits = small _ (omega (arith, quotient_size))

  pub speed_fits : SFits w32 (speed_after p load)
  speed_fits = small _ (omega (arith, speed_size))

  pub place_fits : SFits w32 (load.x +ℤ speed_after p load)
  place_fits =
      small _
      (omega (
        arith,
        abs_add load.x (speed_after p load),
        speed_size,
        ((says_range load).0 range).0,
      ))

  -- What the machine reads back is what was given,
  stiffness_back : to_z w32 p ≡ pos p
  stiffness_back = to_z_pos w32 (omega (arith, soft))

  offset_back : read load.x ≡ load.x
  offset_back = to_z-of_z {w = w32} (small _ (omega (arith, ((says_range load).0 range).0)))

  old_back : read load.v ≡ load.v
  old_back = to_z-of_z {w = w32} (small _ (omega (arith, ((says_range load).0 range).1)))

  -- every word on the way fits,
  pub product_word : SFits w32 (to_z w32 p *ℤ read load.x)
  product_word = rw (stiffness_back, offset_back) product_fits

  difference_is : new_difference p load ≡ speed_after p load
  unfolding quotient speed_after
  difference_is =
      simp (
        stiffness_back,
        offset_back,
        old_back,
        to_z-of_z {w = w32} product_fits,
        to_z-of_z {w = w32} quotient_fits,
      )

  pub difference_word : SFits w32 (new_difference p load)
  difference_word = rw difference_is speed_fits

  -- and the new speed and the new offset are those of the definitions.
  pub new_speed_is : new_speed p load ≡ speed_after p load
  new_speed_is = ap read difference_is ∙ to_z-of_z {w = w32} speed_fits

  sum_is : read load.x +ℤ new_speed p load ≡ load.x +ℤ speed_after p load
  sum_is = ap₂ ◌+ℤ◌ offset_back new_speed_is

  pub sum_word : SFits w32 (read load.x +ℤ new_speed p load)
  sum_word = rw sum_is place_fits

  pub new_offset_is : read (read load.x +ℤ new_speed p load) ≡ load.x +ℤ speed_after p load
  new_offset_is = ap read sum_is ∙ to_z-of_z {w = w32} place_fits

-- What a step's answers and its words are shown by.
pub ruleset ways = (bad_state, bad_stiffness, bad_speed, bad_offset, moves, says_stiffness, product_word, difference_word, sum_word, new_speed_is, new_offset_is)
