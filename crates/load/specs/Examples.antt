-- A table of steps, worked out by hand.
use Rattle.std.specs.Prelude.{ℕ, ◌≡◌, Ok, Err, ℤ, pos, neg_ℤ}
use Rattle.basis.specs.declared.Refusal.TheVariants as why
use Rattle.load.specs.Says.{StepSays}
use Rattle.load.specs.Energy.{energy, remainder, Run}
use Rattle.load.specs.declared.Load.{Load}

-- A load at offset x with speed v.
abbrev pub load_at : ℤ → ℤ → Load
load_at x v = record { x = x; v = v }

-- A step from one load to another, the remainder r, and the energy before and after.
pub record Worked (p : ℕ) (before after : Load) (r held kept : ℤ) : Type 0 where
  pub step : StepSays before p (Ok after)
  pub rest : remainder p before.x ≡ r
  pub first : energy p before ≡ held
  pub then : energy p after ≡ kept

-- The table, row by row.
pub record Examples : Type 0 where
  -- 100·500 is 1,024·48 + 848: v' = -7 - 48 and x' = 500 - 55. The energy is 1,024·49 + 350,000 +
  -- 25,000,000, then 1,024·3,025 + 2,447,500 + 19,802,500: it changes by 848·(-7 - 55).
  pub above : Worked 100 (load_at (pos 500) (neg_ℤ (pos 7))) (load_at (pos 445) (neg_ℤ (pos 55)))
      (pos 848) (pos 25400176) (pos 25347600)
  -- -100·500 is 1,024·(-49) + 176, rounded down and not toward 0: v' = 7 + 49, x' = -500 + 56.
  pub below : Worked 100 (load_at (neg_ℤ (pos 500)) (pos 7)) (load_at (neg_ℤ (pos 444)) (pos 56))
      (pos 176) (pos 25400176) (pos 25411264)
  -- A step that ended within 10 changes the energy by 1,004·(9 + 10): above 1,024·10, and not above
  -- 1,024·21.
  pub most : Worked 1 (load_at (neg_ℤ (pos 20)) (pos 9)) (load_at (neg_ℤ (pos 10)) (pos 10))
      (pos 1004) (pos 83524) (pos 102600)
  -- Offset and speed may reach 32,767.
  pub brink : StepSays (load_at (pos 0) (pos 32767)) 1 (Ok (load_at (pos 32767) (pos 32767)))
  -- 'A stiffness .. out of range'
  pub soft : StepSays (load_at (pos 1) (pos 1)) 0 (Err why.Load)
  pub stiff : StepSays (load_at (pos 1) (pos 1)) 1025 (Err why.Load)
  -- 'or state out of range': by x, though the step would come back into the range; and by v.
  pub far : StepSays (load_at (pos 32768) (neg_ℤ (pos 1))) 1 (Err why.Load)
  pub fast : StepSays (load_at (neg_ℤ (pos 1)) (neg_ℤ (pos 32768))) 1024 (Err why.Load)
  -- 'or a step that would leave the range': by x' = 32,768 alone, and by v' = -65,534 alone.
  pub farther : StepSays (load_at (pos 2) (pos 32766)) 1 (Err why.Load)
  pub faster : StepSays (load_at (pos 32767) (neg_ℤ (pos 32767))) 1024 (Err why.Load)
  -- Two steps, both of which ended within 445; the load at the beginning is farther.
  pub run : Run 100 445 2 (load_at (pos 500) (neg_ℤ (pos 7))) (load_at (pos 347) (neg_ℤ (pos 98)))
