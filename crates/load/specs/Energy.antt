-- Document 02, §7: the energy of a load, and steps one after the other.
use Rattle.std.specs.Prelude.{ℕ, suc, ◌≤◌, Ok, ℤ, pos, nat_abs, ◌+ℤ◌, ◌-ℤ◌, ◌*ℤ◌}
use Rattle.load.specs.Step.{D, quotient}
use Rattle.load.specs.Says.{StepSays}
use Rattle.load.specs.declared.Load.{Load}

-- 'Energy is D·v·v - p·x·v + p·x·x.'
abbrev pub energy : ℕ → Load → ℤ
energy p load =
    pos D *ℤ load.v *ℤ load.v
    -ℤ pos p *ℤ load.x *ℤ load.v
    +ℤ pos p *ℤ load.x *ℤ load.x

-- 'the remainder of p·x by D': what the quotient rounded down leaves.
abbrev pub remainder : ℕ → ℤ → ℤ
remainder p x = pos p *ℤ x -ℤ pos D *ℤ quotient p x

-- 'n unrefused steps, every one of which ended with x and v within M either way': from one load to
-- another, by the contract of `Load::step`. Of the load at the beginning M says nothing.
pub data Run (p m : ℕ) : ℕ → Load → Load → Type 0 where
  none : {load : Load} → Run p m 0 load load
  then : {n : ℕ} {first before after : Load} → Run p m n first before
      → StepSays before p (Ok after)
      → nat_abs after.x ≤ m → nat_abs after.v ≤ m
      → Run p m (suc n) first after
