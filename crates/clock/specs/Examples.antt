-- Document 01, 'Examples to hold against it': readings that grouping speaks of.
use Rattle.std.specs.Prelude.{ℕ, ◌≡◌, List, [], ◌∷◌}
use Rattle.basis.specs.Numbers.{step_length}
use Rattle.clock.specs.History.{clock_after, NoneRefused, NoLongGap}
use Rattle.clock.specs.declared.Clock.{Clock}

-- The clock of a session that opened at 0: its last reading, steps, remainder and cut time.
abbrev pub clock_at : ℕ → ℕ → ℕ → ℕ → Clock
clock_at last steps remainder cut =
    record { first = 0; last = last; remainder = remainder; cut = cut; steps = steps }

-- What the readings of the next example do, after an opening at 0.
pub record Grouped (readings : List ℕ) : Type 0 where
  -- They are such as grouping asks for.
  pub accepted : NoneRefused step_length 0 readings
  pub short : NoLongGap 0 readings
  -- '1 step, remainder 1000'
  pub clock : clock_after step_length 0 readings ≡ clock_at 21000 1 1000 0

-- 'Readings 0, 7000, 14000, 21000 do as 0, 21000: 1 step, remainder 1000.'
abbrev pub GroupingExample : Type 0
GroupingExample = Grouped (7000 ∷ 14000 ∷ 21000 ∷ []) × Grouped (21000 ∷ [])

-- 'no gap over 250,000 microseconds': one of exactly 250,000 is none, one of 250,001 is.
abbrev pub LongestGapExample : Type 0
LongestGapExample = NoLongGap 0 (250000 ∷ []) × (NoLongGap 0 (250001 ∷ []) → ⊥)
