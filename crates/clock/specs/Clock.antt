-- Document 01, 'The clock', and '*Sound* means' of a clock's own words; over any step length.
use Rattle.std.specs.Prelude.{ℕ, ◌+◌, ◌-◌, ◌*◌, ◌/◌, ◌%◌, min, Bool, ◌&&◌, ltb, leb, eqb}
use Rattle.basis.specs.Numbers.{most_steps}
use Rattle.clock.specs.declared.Clock.{Clock}

-- 'the smaller of gap and 250,000': the most that counts of a gap.
abbrev pub longest_gap : ℕ
longest_gap = 250000

-- 'A session opens with a first reading, remainder 0, cut time 0, steps 0.'
abbrev pub fresh : ℕ → Clock
fresh first = record { first = first; last = first; remainder = 0; cut = 0; steps = 0 }

-- 'gap is reading minus last reading'
abbrev pub gap : Clock → ℕ → ℕ
gap clock reading = reading - clock.last

-- 'used is the smaller of gap and 250,000'
abbrev pub used : ℕ → ℕ
used gap = min gap longest_gap

-- 'the pool is remainder plus used'
abbrev pub pool : Clock → ℕ → ℕ
pool clock reading = clock.remainder + used (gap clock reading)

-- 'pool/20,000 whole steps are made'
unfoldable pub due : ℕ → Clock → ℕ → ℕ
due length clock reading = pool clock reading / length

-- The clock after a reading: 'the cut time grows by gap minus used', 'the rest of the pool is the
-- new remainder'.
unfoldable pub ticked : ℕ → Clock → ℕ → Clock
ticked length clock reading =
    record {
      first = clock.first;
      last = reading;
      remainder = pool clock reading % length;
      cut = clock.cut + (gap clock reading - used (gap clock reading));
      steps = clock.steps + due length clock reading;
    }

-- 'One reading makes at most 13 steps': a remainder one below the length, then the longest gap.
abbrev pub most_due : ℕ → ℕ
most_due length = (length - 1 + longest_gap) / length

-- '*Sound* means: .. steps, remainder .. within their limits; the time equation holds', which is
-- 'last reading minus first reading equals 20,000·steps plus remainder plus cut time'. The first
-- reading stands on the right, so that one above the last is never equal.
unfoldable pub sound_clock : ℕ → Clock → Bool
sound_clock length clock =
    ltb clock.remainder length
    && leb clock.steps most_steps
    && eqb clock.last (clock.first + (length * clock.steps + clock.remainder + clock.cut))
