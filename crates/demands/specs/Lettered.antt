-- Document 01, 'Examples to hold against it': those with a letter.
use Rattle.std.specs.Prelude.{ℕ, ◌+◌, ◌≡◌, List, [], ◌∷◌, ℤ, pos, Option, None, Some}
use Rattle.basis.specs.Numbers.{most_carriers, step_length}
use Rattle.basis.specs.Order.{Answer, accepted, answer}
use Rattle.record.specs.Bytes.{bytes_of, read_order, write_order}
use Rattle.record.specs.declared.bytes.Record.{Record}
use Rattle.clock.specs.declared.Given.{Given}
use Rattle.clock.specs.Reading.{clock_order}
use Rattle.clock.specs.Examples.{clock_at}
use Rattle.yard.specs.declared.world.Yard.{Yard}
use Rattle.yard.specs.declared.carrier.Carrier.{Carrier}
use Rattle.yard.specs.declared.levers.Axis.TheVariants.{X}
use Rattle.yard.specs.Ranges.{minus}
use Rattle.yard.specs.Levers.{new_speed}
use Rattle.yard.specs.Free.{free}
use Rattle.yard.specs.Step.{step}
use Rattle.fleet.specs.Examples.{practice}

-- The answer to a reading with this gap, where no step was made yet and this is the remainder.
abbrev pub answer_after : ℕ → ℕ → Answer Given
answer_after remainder gap =
    answer (clock_order step_length (clock_at remainder 0 remainder 0) (remainder + gap))

-- It is accepted; then the last reading, the steps due, the remainder and the cut time are these.
abbrev pub makes : ℕ → ℕ → ℕ → ℕ → Answer Given
makes last steps remainder cut =
    accepted (record { clock = clock_at last steps remainder cut; due = steps })

-- One step of a carrier 256 by 256 in a yard with these cells.
abbrev pub step_in : Yard → List ℕ → Option ℕ → Carrier → Carrier
step_in yard cells = step (free yard cells (record { w = 256; h = 256 }))

-- One step in the practice yard.
abbrev pub in_practice : Option ℕ → Carrier → Carrier
in_practice = step_in practice.yard practice.cells

-- One step in the '3 by 3 yard, wall only at column 2, row 2', row by row.
abbrev pub in_corner : Option ℕ → Carrier → Carrier
in_corner =
    step_in (record { w = 3; h = 3; b = 1 })
    (0 ∷ 0 ∷ 0
    ∷ 0 ∷ 0 ∷ 0
    ∷ 0 ∷ 0 ∷ 1 ∷ [])

-- A carrier at (x, y) with its speeds and its lever.
abbrev pub at : ℕ → ℕ → ℤ → ℤ → ℕ → Carrier
at x y u v lever = record { x = pos x; y = pos y; u = u; v = v; lever = pos lever }

-- 'step 258, carrier 3, lever 9'
abbrev pub record_l : Record
record_l = record { step = 258; carrier = 3; lever = 9 }

-- 'bytes 2, 1, 0, 0, 3, 9, 0, 0'
abbrev pub bytes_l : List ℕ
bytes_l = 2 ∷ 1 ∷ 0 ∷ 0 ∷ 3 ∷ 9 ∷ 0 ∷ 0 ∷ []

-- 'Those with a letter are proved, as a single table under a single statement, of the definitions.'
pub record Lettered : Type 0 where
  -- 'A: remainder 0, gap 19,999: 0 steps, remainder 19,999.'
  pub a : answer_after 0 19999 ≡ makes 19999 0 19999 0
  -- 'B: gap 20,000: 1 step, remainder 0.'
  pub b : answer_after 0 20000 ≡ makes 20000 1 0 0
  -- 'C: remainder 19,999, gap 250,000: 13 steps, remainder 9,999.'
  pub c : answer_after 19999 250000 ≡ makes 269999 13 9999 0
  -- 'D: remainder 0, gap 250,001: 12 steps, remainder 10,000, cut 1.'
  pub d : answer_after 0 250001 ≡ makes 250001 12 10000 1
  -- 'E: from rest, lever 1: u 12, x grows by 12.'
  pub e : in_practice (Some 1) (at 0 256 (pos 0) (pos 0) 0) ≡ at 12 256 (pos 12) (pos 0) 1
  -- 'F: u 195, lever 1: 200.'
  pub f : in_practice None (at 0 256 (pos 195) (pos 0) 1) ≡ at 200 256 (pos 200) (pos 0) 1
  -- 'G: brake on -3 .. on 1 ..': 'both give 0' (02 §2).
  pub g : (new_speed X 9 (minus 3) ≡ pos 0) × (new_speed X 9 (pos 1) ≡ pos 0)
  -- 'H: practice yard, carrier at (500, 256), u 0, lever 1: x 512, u 12.'
  pub h : in_practice None (at 500 256 (pos 0) (pos 0) 1) ≡ at 512 256 (pos 12) (pos 0) 1
  -- 'I: next step: x 512, u 0.'
  pub i : in_practice None (at 512 256 (pos 12) (pos 0) 1) ≡ at 512 256 (pos 0) (pos 0) 1
  -- 'J: carrier at (5, 256), u 0, lever 5: x 0, u 0.'
  pub j : in_practice None (at 5 256 (pos 0) (pos 0) 5) ≡ at 0 256 (pos 0) (pos 0) 5
  -- 'K: 3 by 3 yard, .. 256 by 256 carrier at rest at (256, 256), lever 2: (264, 256), u 8, v 0.'
  pub k : in_corner None (at 256 256 (pos 0) (pos 0) 2) ≡ at 264 256 (pos 8) (pos 0) 2
  -- 'L: step 258, carrier 3, lever 9 is bytes 2, 1, 0, 0, 3, 9, 0, 0': written, and read back.
  pub l : (answer (write_order 258 3 9) ≡ accepted record_l) × (bytes_of record_l ≡ bytes_l)
      × (answer (read_order most_carriers bytes_l) ≡ accepted record_l)
