-- Document 01, 'From opening on': a history is a list of readings after the first, in the order in
-- which they are given. Each goes to the clock that the one before it left.
use Rattle.std.specs.Prelude.{ℕ, ◌+◌, ◌-◌, ◌≤◌, ◌≡◌, List, [], ◌∷◌}
use Rattle.basis.specs.Order.{Answer, refused, accepted, answer}
use Rattle.clock.specs.Clock.{longest_gap, fresh}
use Rattle.clock.specs.Reading.{clock_order, clock_left}
use Rattle.clock.specs.declared.Clock.{Clock}
use Rattle.clock.specs.declared.Given.{Given}

-- The clock after a list of readings.
unfoldable pub after_readings : ℕ → Clock → List ℕ → Clock
after_readings length clock [] = clock
after_readings length clock (reading ∷ later) =
    after_readings length (clock_left clock (answer (clock_order length clock reading))) later

-- A reading before the later ones where it was accepted; where it was refused, these alone.
abbrev pub kept : Answer Given → ℕ → List ℕ → List ℕ
kept (accepted given) reading later = reading ∷ later
kept (refused number) reading later = later

-- The accepted ones of a list of readings.
unfoldable pub accepted_of : ℕ → Clock → List ℕ → List ℕ
accepted_of length clock [] = []
accepted_of length clock (reading ∷ later) =
    let reply : Answer Given = answer (clock_order length clock reading) in
    kept reply reading (accepted_of length (clock_left clock reply) later)

-- The clock of a session that opened with a first reading, after a history.
abbrev pub clock_after : ℕ → ℕ → List ℕ → Clock
clock_after length first history = after_readings length (fresh first) history

-- 'the history of accepted readings' of such a session.
abbrev pub accepted_after : ℕ → ℕ → List ℕ → List ℕ
accepted_after length first history = accepted_of length (fresh first) history

-- The last reading of a list; of an empty one, the reading before it.
unfoldable pub last_of : ℕ → List ℕ → ℕ
last_of last [] = last
last_of last (reading ∷ later) = last_of reading later

-- 'the sum, over them, of what each gap had above 250,000'
unfoldable pub cut_time : ℕ → List ℕ → ℕ
cut_time last [] = 0
cut_time last (reading ∷ later) = (reading - last - longest_gap) + cut_time reading later

-- Demand 3, 'none refused': the accepted ones are all of them.
abbrev pub NoneRefused : ℕ → ℕ → List ℕ → Type 0
NoneRefused length first history = accepted_after length first history ≡ history

-- Demand 3, 'no gap over 250,000 microseconds'
unfoldable pub NoLongGap : ℕ → List ℕ → Type 0
NoLongGap last [] = Unit {0}
NoLongGap last (reading ∷ later) = (reading - last ≤ longest_gap) × NoLongGap reading later
