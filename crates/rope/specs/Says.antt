-- The contracts of the public entries, each by its name: what was given, and what came out.
use Rattle.std.specs.Prelude.{ℕ, ◌≡◌, List, length, Result}
use Rattle.basis.specs.Order.{answer}
use Rattle.basis.specs.Refusal.{answer_of}
use Rattle.basis.specs.declared.Refusal.{Refusal}
use Rattle.rope.specs.declared.Point.{Point}
use Rattle.rope.specs.declared.Force.{Force}
use Rattle.rope.specs.Step.{rope_order}

-- `Point::step_counted`: the first `count` forces count.
abbrev pub StepCountedSays : Point → List Force → ℕ → Result Point Refusal → Type 0
StepCountedSays point forces count out = answer_of out ≡ answer (rope_order point forces count)

-- `Point::step`: each force counts.
abbrev pub StepSays : Point → List Force → Result Point Refusal → Type 0
StepSays point forces out = StepCountedSays point forces (length forces) out
