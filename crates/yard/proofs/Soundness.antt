-- Laws of the state rule: what it says of one carrier, and that a step keeps it, for any `free`.
use Prim.Native.Nat.{ℕ, suc, ◌≤◌}
use mathlib.Core.Path.{◌≡◌, refl, ap, fun_ext}
use mathlib.Core.Logic.Iff
use mathlib.Core.Logic.{◌↔◌}
use mathlib.Core.Bool.{Bool, true}
use native.Mathlib.Omega.{arith}
use borrow.Author.Tests.{leb-true, le-leb}
use lib.Dec.{leb}
use lib.IntN.{ℤ, pos, negsuc, nat_abs}
use Rattle.std.specs.Prelude.{Option, None, Some}
use Rattle.basis.proofs.Tests.{and_both, and_left, says_le, says_four}
use Rattle.yard.specs.declared.carrier.Carrier.{Carrier}
use Rattle.yard.specs.declared.levers.Axis.TheVariants.{X, Y}
use Rattle.yard.specs.Ranges.{between}
use Rattle.yard.specs.Levers.{new_speed}
use Rattle.yard.specs.Slide.{slide}
use Rattle.yard.specs.Step.{lever_after, LeverFits, at_rest, step, sound_carrier}
use Rattle.yard.specs.Facts.{FromTo}
use Rattle.yard.proofs.Fits.{from_to}
use Rattle.yard.proofs.Signed.{words}
use Rattle.yard.proofs.Limits.{speed_within}
use Rattle.yard.proofs.Walk.{slide_within, slide_x_free, slide_y_free}

-- Within a bound either way, and from 0 to a bound.
either_way : (b : ℕ) (z : ℤ)
    → (between (negsuc b) z (pos (suc b)) ≡ true) ↔ (nat_abs z ≤ suc b)
unfolding between
either_way b (pos n) = says_le n (suc b)
either_way b (negsuc n) = (
  λ e. let h = leb-true n b (and_left (leb n b) true e) in omega arith,
  λ h. and_both (le-leb n b (omega arith)) refl,
)

from_zero : (b : ℕ) (z : ℤ) → between (pos 0) z (pos b) ≡ true → nat_abs z ≤ b
from_zero b z e = let (n, same, low, high) = (from_to 0 b z).0 e in rw same high

zero_to : (b n : ℕ) → n ≤ b → between (pos 0) (pos n) (pos b) ≡ true
zero_to b n h = (from_to 0 b (pos n)).1 (n, refl, omega arith, h)

-- The state rule, as facts.
pub record Good (free : ℤ → ℤ → Bool) (carrier : Carrier) : Type 0 where
  pub here : free carrier.x carrier.y ≡ true
  pub u : nat_abs carrier.u ≤ 200
  pub v : nat_abs carrier.v ≤ 200
  pub lever : between (pos 0) carrier.lever (pos 9) ≡ true

module _ (free : ℤ → ℤ → Bool) (carrier : Carrier) where
  -- The state rule, where the lever's test says a fact.
  lever_decides : {L : Type 0} → (between (pos 0) carrier.lever (pos 9) ≡ true) ↔ L
      → (sound_carrier free carrier ≡ true)
      ↔ ((free carrier.x carrier.y ≡ true)
      × (nat_abs carrier.u ≤ 200)
      × (nat_abs carrier.v ≤ 200)
      × L)
  unfolding sound_carrier
  lever_decides = says_four Iff.rfl (either_way 199 carrier.u) (either_way 199 carrier.v)

  pub rule : (sound_carrier free carrier ≡ true)
      ↔ ((free carrier.x carrier.y ≡ true)
      × (nat_abs carrier.u ≤ 200)
      × (nat_abs carrier.v ≤ 200)
      × FromTo 0 9 carrier.lever)
  rule = lever_decides (from_to 0 9 carrier.lever)

  pub good_of : sound_carrier free carrier ≡ true → Good free carrier
  good_of e =
      let (here, u, v, lever) = (lever_decides Iff.rfl).0 e in
      record { here = here; u = u; v = v; lever = lever }

  pub of_good : Good free carrier → sound_carrier free carrier ≡ true
  of_good g = (lever_decides Iff.rfl).1 (g.here, g.u, g.v, g.lever)

-- Part 1 leaves a lever 0 to 9.
lever_holds : (held : Option ℕ) (lever : ℤ) → LeverFits held
    → between (pos 0) lever (pos 9) ≡ true
    → between (pos 0) (lever_after held lever) (pos 9) ≡ true
lever_holds None lever h e = e
lever_holds (Some moved) lever h e = zero_to 9 moved h

-- A sound carrier stays sound.
module _ (free : ℤ → ℤ → Bool) (held : Option ℕ) (carrier : Carrier) (h : LeverFits held) where
  good_step : Good free carrier → Good free (step free held carrier)
  unfolding step
  good_step g =
      let l = nat_abs (lever_after held carrier.lever) in
      let u = new_speed X l carrier.u in
      let v = new_speed Y l carrier.v in
      let x = (slide free X u carrier.x carrier.y).at in
      let there = slide_x_free free u carrier.x carrier.y g.here in
      let hu = speed_within X l carrier.u g.u in
      let hv = speed_within Y l carrier.v g.v in
      record {
        here = slide_y_free free v x carrier.y there;
        u = omega (arith, slide_within free X u carrier.x carrier.y);
        v = omega (arith, slide_within free Y v x carrier.y);
        lever = lever_holds held carrier.lever h g.lever;
      }

  pub step_sound : sound_carrier free carrier ≡ true
      → sound_carrier free (step free held carrier) ≡ true
  step_sound e = of_good free (step free held carrier) (good_step (good_of free carrier e))

-- What the parts of a step rest on, each for the next.
pub record Stepped (free : ℤ → ℤ → Bool) (lever : ℕ) (carrier : Carrier) : Type 0 where
  pub position : lever ≤ 9
  pub old_u : nat_abs carrier.u ≤ 200
  pub old_v : nat_abs carrier.v ≤ 200
  pub new_u : nat_abs (new_speed X lever carrier.u) ≤ 200
  pub new_v : nat_abs (new_speed Y lever carrier.v) ≤ 200
  pub here : free carrier.x carrier.y ≡ true
  pub there : free (slide free X (new_speed X lever carrier.u) carrier.x carrier.y).at carrier.y
      ≡ true

pub stepped : (free : ℤ → ℤ → Bool) (held : Option ℕ) (carrier : Carrier) → LeverFits held
    → sound_carrier free carrier ≡ true
    → Stepped free (nat_abs (lever_after held carrier.lever)) carrier
stepped free held carrier h e =
    let good = good_of free carrier e in
    let lever = lever_after held carrier.lever in
    let u = new_speed X (nat_abs lever) carrier.u in
    record {
      position = from_zero 9 lever (lever_holds held carrier.lever h good.lever);
      old_u = good.u;
      old_v = good.v;
      new_u = speed_within X (nat_abs lever) carrier.u good.u;
      new_v = speed_within Y (nat_abs lever) carrier.v good.v;
      here = good.here;
      there = slide_x_free free u carrier.x carrier.y good.here;
    }

pub ruleset steps = (words, stepped)

-- A carrier at rest is sound where it is free.
pub rest_sound : (free : ℤ → ℤ → Bool) (x y : ℤ) → free x y ≡ true
    → sound_carrier free (at_rest x y) ≡ true
rest_sound free x y h =
    of_good free (at_rest x y)
    (record { here = h; u = omega arith; v = omega arith; lever = zero_to 9 0 (omega arith) })

-- Which places are free is all that a step asks.
pub step_same : (free other : ℤ → ℤ → Bool) → ((x y : ℤ) → free x y ≡ other x y)
    → (held : Option ℕ) (carrier : Carrier) → step free held carrier ≡ step other held carrier
step_same free other h held carrier =
    ap (λ f. step f held carrier) (fun_ext (λ x. fun_ext (h x)))
