-- The contract of each public entry, by name: what was given, and what came out. A clause is
-- nothing but its name.
use Rattle.std.specs.Prelude.{ℕ, ◌≡◌, Bool, Result}
use Rattle.basis.specs.Numbers.{step_length}
use Rattle.basis.specs.Order.{answer}
use Rattle.basis.specs.Refusal.{answer_of}
use Rattle.basis.specs.declared.Refusal.{Refusal}
use Rattle.clock.specs.Clock.{fresh, sound_clock}
use Rattle.clock.specs.Reading.{clock_order}
use Rattle.clock.specs.declared.Clock.{Clock}
use Rattle.clock.specs.declared.Given.{Given}

-- `Clock::new`
abbrev pub NewSays : ℕ → Clock → Type 0
NewSays first out = out ≡ fresh first

-- `Clock::is_sound`
abbrev pub IsSoundSays : Clock → Bool → Type 0
IsSoundSays clock out = out ≡ sound_clock step_length clock

-- `Clock::read`
abbrev pub ReadSays : Clock → ℕ → Result Given Refusal → Type 0
ReadSays clock reading out = answer_of out ≡ answer (clock_order step_length clock reading)
