-- Demand 3, 'sessions opened on one world, each call given what the last one left', at the words.
-- Digest and shown place change nothing, and replay only a state buffer of its own: they are no
-- calls here.
use Rattle.std.specs.Prelude.{ℕ, ◌*◌, ◌≡◌, List, [], ◌∷◌, ℤ, take}
use Rattle.basis.specs.Order.{Answer, refused, accepted, answer}
use Rattle.record.specs.Log.{records}
use Rattle.record.specs.declared.bytes.Record.{Record}
use Rattle.fleet.specs.State.{World}
use Rattle.course.specs.Calls.{Call, reading, delivery}
use Rattle.session.specs.declared.Session.{Session}
use Rattle.session.specs.Lent.{Lent, lent, Made, tells}
use Rattle.session.specs.Calls.{open_order, reading_order, deliver_order, Delivery}

-- What is handed from call to call: the session, and state, rows and log as they stand.
abbrev pub Handed : Type 0
Handed = Made Session

-- The session of it.
abbrev pub session_in : Handed → Session
session_in h = h.result

-- All that a call is lent: the world's cells and boxes, and the buffers as they stand.
abbrev pub lent_in : World → Handed → Lent
lent_in world h = lent world.cells world.boxes h.state h.rows h.log

-- What an answer hands on: an accepted one its session and what it made, a refusal all as it was.
-- So a delivery in h that is answered 7 hands on h, one that is taken the new buffers and session.
abbrev pub hands_on : {A : Type 0} → (A → Session) → Handed → Answer (Made A) → Handed
hands_on itsSession h (accepted m) = tells itsSession m
hands_on itsSession h (refused number) = h

-- What a delivery of these bytes is answered.
abbrev pub delivery_answer : World → Handed → List ℕ → Answer (Made Delivery)
delivery_answer world h bytes = answer (deliver_order (session_in h) (lent_in world h) bytes)

-- What a call hands on, given h: of a reading the session is the answer itself, of a delivery the
-- session in it.
unfoldable pub next : World → Handed → Call → Handed
next world h (reading t) =
    hands_on (λ session. session) h (answer (reading_order (session_in h) (lent_in world h) t))
next world h (delivery bytes) = hands_on (λ d. d.session) h (delivery_answer world h bytes)

-- 'each call given what the last one left'
unfoldable pub after_calls : World → Handed → List Call → Handed
after_calls world h [] = h
after_calls world h (call ∷ calls) = after_calls world (next world h call) calls

-- 'opened on one world': opening was accepted and left this, whatever the buffers held.
pub record Opened (world : World) (first : ℕ) (h : Handed) : Type 0 where
  pub state : List ℤ
  pub rows : List ℤ
  pub log : List ℕ
  pub accepts : answer (open_order world.yard first
      (lent world.cells world.boxes state rows log)) ≡ accepted h

-- A session as in demand 3: opened with this first reading, then given these calls.
pub record Reached (world : World) (first : ℕ) (calls : List Call) (h : Handed) : Type 0 where
  pub opening : Handed
  pub opened : Opened world first opening
  pub leads : after_calls world opening calls ≡ h

-- 'the number of steps made, n'
abbrev pub steps_made : Handed → ℕ
steps_made h = (session_in h).clock.steps

-- 'the records held'
abbrev pub held_by : Handed → List Record
held_by h = records (session_in h).held h.log

-- 'only the held part of a buffer is given': eight bytes for each record held.
abbrev pub held_part : Handed → List ℕ
held_part h = take (8 * (session_in h).held) h.log
