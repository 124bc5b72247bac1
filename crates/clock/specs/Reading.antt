-- Document 01, 'Numbers given back' and 'Order', of a reading.
use Rattle.std.specs.Prelude.{ℕ, ◌+◌, leb}
use Rattle.basis.specs.Numbers.{BACKWARD, END, FAULT, most_steps}
use Rattle.basis.specs.Order.{Answer, refused, accepted, Order, check, give}
use Rattle.clock.specs.Clock.{due, ticked, sound_clock}
use Rattle.clock.specs.declared.Clock.{Clock}
use Rattle.clock.specs.declared.Given.{Given}

-- 'whole steps are made, and the rest of the pool is the new remainder'
abbrev pub given_by : ℕ → Clock → ℕ → Given
given_by length clock reading =
    record { clock = ticked length clock reading; due = due length clock reading }

-- 'Reading: 14, 11, 12.' Of 14 the clock's own share: its words are sound.
unfoldable pub clock_order : ℕ → Clock → ℕ → Order Given
clock_order length clock reading =
    check (sound_clock length clock) FAULT
    (check (leb clock.last reading) BACKWARD
    (check (leb (clock.steps + due length clock reading) most_steps) END
    (give (given_by length clock reading))))

-- The clock after an answer: an accepted reading's new clock; a refusal leaves it as before.
abbrev pub clock_left : Clock → Answer Given → Clock
clock_left clock (accepted given) = given.clock
clock_left clock (refused number) = clock
