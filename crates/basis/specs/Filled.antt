-- What a call that may change one slice alone answers, and what it leaves there.
use Rattle.std.specs.Prelude.{ℕ, List}
use Rattle.basis.specs.Order.{Answer, refused, accepted}

-- The answer, and the slice afterwards.
pub record Filled (A B : Type 0) : Type 0 where
  pub answer : A
  pub out : List B

-- The two, as one.
abbrev pub filled : {A B : Type 0} → A → List B → Filled A B
filled answer out = record { answer = answer; out = out }

-- A refusal leaves the slice 'as before'; an accepted call fills it, and answers that it was done.
abbrev pub fill : {A B : Type 0} → A → (ℕ → A) → List B → Answer (List B) → Filled A B
fill done refusal before (refused number) = filled (refusal number) before
fill done refusal before (accepted out) = filled done out
