-- 'Numbers given back', as the code has them: a refusal and its number, and what a call answers
-- that may be refused.
use Rattle.std.specs.Prelude.{ℕ, Result, Ok, Err}
use Rattle.basis.specs.Numbers.{MALFORMED, CARRIER, LEVER, STEP, CONFLICT, LATE, FULL, WORLD, ROOM}
use Rattle.basis.specs.Numbers.{BACKWARD, END, LOG, FAULT, LOAD, ROPE}
use Rattle.basis.specs.Order.{Answer, refused, accepted}
use Rattle.basis.specs.declared.Refusal.{Refusal}
use Rattle.basis.specs.declared.Refusal.TheVariants as why

-- The number of a refusal.
abbrev pub number_of : Refusal → ℕ
number_of why.Malformed = MALFORMED
number_of why.Carrier = CARRIER
number_of why.Lever = LEVER
number_of why.Step = STEP
number_of why.Conflict = CONFLICT
number_of why.Late = LATE
number_of why.Full = FULL
number_of why.World = WORLD
number_of why.Room = ROOM
number_of why.Backward = BACKWARD
number_of why.End = END
number_of why.Log = LOG
number_of why.Fault = FAULT
number_of why.Load = LOAD
number_of why.Rope = ROPE

-- What a call answers: what it gives, or the number of its refusal.
abbrev pub answer_of : {A : Type 0} → Result A Refusal → Answer A
answer_of (Ok a) = accepted a
answer_of (Err refusal) = refused (number_of refusal)
