-- The contract of each public entry, by name: what was given, and what came out. A clause is
-- nothing but its name.
use Rattle.std.specs.Prelude.{ℕ, ◌≡◌, ℤ, Float}
use Rattle.basis.specs.Numbers.{step_length}
use Rattle.shown.specs.Blend.{blend_of}
use Rattle.shown.specs.Answer.{shown_place}
use Rattle.shown.specs.declared.Place.{Place}

-- `blend`
abbrev pub BlendSays : ℤ → ℤ → ℕ → Float → Type 0
BlendSays p c remainder out = out ≡ blend_of step_length p c remainder

-- `Place::shown`
abbrev pub PlaceSays : ℤ → ℤ → ℤ → ℤ → ℕ → Place → Type 0
PlaceSays px py cx cy remainder out = out ≡ shown_place step_length px py cx cy remainder
