-- A small world, so that no premise of the statements is empty, and document 01's example on it:
-- '100 steps made: step 36 is taken, step 35 is LATE; step 35 already held with the same lever is
-- HELD.'
use Rattle.std.specs.Prelude.{ℕ, ◌+◌, ◌≡◌, Option, None, Some, List, [], ◌∷◌, eqb, length, get_or}
use Rattle.basis.specs.Numbers.{MALFORMED, CARRIER, CONFLICT, LATE, BACKWARD, step_length}
use Rattle.basis.specs.Order.{refused, accepted}
use Rattle.record.specs.Bytes.{bytes_of}
use Rattle.course.specs.World.{World, Lawful, after}
use Rattle.course.specs.Session.{Session}
use Rattle.course.specs.Calls.{Call, reading, delivery, taken, held}
use Rattle.course.specs.Calls.{answer_to, next, session_after}
use Rattle.course.specs.Words.{WordWorld, world_of_words, Sized}

-- A word counts its steps; a lever given in a step is added in place of 1.
abbrev pub counted : Option ℕ → ℕ → ℕ
counted None word = word + 1
counted (Some lever) word = word + lever

-- Two carriers of one word each.
abbrev pub counting : WordWorld ℕ
counting =
    record {
      width = 2;
      carriers = 2;
      length = step_length;
      start = 7 ∷ 7 ∷ [];
      zero = 0;
      step = λ levers state.
          counted (levers 0) (get_or state 0 0) ∷ counted (levers 1) (get_or state 1 0) ∷ [];
      good = λ state. eqb (length state) 2;
    }

-- The same as a world.
abbrev pub world : World
world = world_of_words counting

-- The delivery of a record.
abbrev pub sent : ℕ → ℕ → ℕ → Call
sent step carrier lever =
    delivery (bytes_of (record { step = step; carrier = carrier; lever = lever }))

-- After an opening at 0 these readings make 100 steps.
abbrev pub readings : List Call
readings =
    reading 250000
    ∷ reading 500000
    ∷ reading 750000
    ∷ reading 1000000
    ∷ reading 1250000
    ∷ reading 1500000
    ∷ reading 1750000
    ∷ reading 2000000
    ∷ []

-- 100 steps made, with a record held for step 35.
abbrev pub hundred : Session world
hundred = session_after world 0 (sent 35 0 3 ∷ readings)

-- A record for step 36 comes late.
abbrev pub late : Session world
late = next hundred (sent 36 1 9)

-- Both records come in time, in the other order.
abbrev pub early : Session world
early = session_after world 0 (sent 36 1 9 ∷ sent 35 0 3 ∷ readings)

-- What each call on it is answered, and what it leaves.
pub record Example : Type 0 where
  -- The world is lawful, and its steps keep the width.
  pub lawful : Lawful world
  pub sized : Sized counting
  -- '100 steps made'
  pub steps : hundred.clock.steps ≡ 100
  -- 'step 36 is taken'
  pub step36 : answer_to hundred (sent 36 1 9) ≡ accepted (taken late)
  -- 'step 35 is LATE'
  pub step35 : answer_to hundred (sent 35 1 9) ≡ refused LATE
  -- 'step 35 already held with the same lever is HELD'; with another it is 6.
  pub same : answer_to hundred (sent 35 0 3) ≡ accepted held
  pub other : answer_to hundred (sent 35 0 4) ≡ refused CONFLICT
  -- The late record moves its carrier, and the end is as if it had come in time.
  pub before : hundred.made.state ≡ 109 ∷ 107 ∷ []
  pub moved : late.made.state ≡ 109 ∷ 115 ∷ []
  pub in_time : early ≡ late
  -- It is the state of demand 2.
  pub demand2 : late.made.state ≡ after world 100 late.log
  -- Another right after it is taken too.
  pub two : answer_to late (sent 99 0 5) ≡ accepted (taken (next late (sent 99 0 5)))
  -- 'A record for step n or later is only put into the log.'
  pub ahead : (next hundred (sent 100 0 9)).made ≡ hundred.made
  -- 2, 3 and 11, and that a refusal and HELD change nothing.
  pub malformed : answer_to hundred (delivery []) ≡ refused MALFORMED
  pub carrier : answer_to hundred (sent 36 2 1) ≡ refused CARRIER
  pub backward : answer_to hundred (reading 1999999) ≡ refused BACKWARD
  pub refusal : next hundred (delivery []) ≡ hundred
  pub again : next hundred (sent 35 0 3) ≡ hundred
