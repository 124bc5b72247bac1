-- The contract of the public entry, by name: what was given, and what came out.
use Rattle.std.specs.Prelude.{ℕ, ◌≡◌, Result}
use Rattle.basis.specs.Order.{answer}
use Rattle.basis.specs.Refusal.{answer_of}
use Rattle.basis.specs.declared.Refusal.{Refusal}
use Rattle.load.specs.Step.{step_order}
use Rattle.load.specs.declared.Load.{Load}

-- `Load::step`
abbrev pub StepSays : Load → ℕ → Result Load Refusal → Type 0
StepSays load stiffness out = answer_of out ≡ answer (step_order stiffness load)
