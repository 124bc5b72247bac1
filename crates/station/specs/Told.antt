-- The number that the C face tells, of what its parts answer.
use Rattle.std.specs.Prelude.{ℕ, Result, Ok, Err}
use Rattle.basis.specs.Refusal.{number_of}
use Rattle.basis.specs.declared.Refusal.{Refusal}

-- That of an accepted call, or of its refusal.
abbrev pub told_of : Result ℕ Refusal → ℕ
told_of (Ok number) = number
told_of (Err why) = number_of why
