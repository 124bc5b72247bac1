-- What is claimed of every lawful world. `OnEveryWorld`, the last, says it all, and
-- proofs/Statements.antt proves it. No premise is empty: Example.antt has a lawful world with
-- sessions of each kind.
use Rattle.std.specs.Prelude.{ℕ, ◌+◌, ◌*◌, ◌%◌, ◌<◌, ◌≤◌, ◌≡◌, ◌↔◌, ◌≢◌, true, length, get_or, take, drop, replicate}
use mathlib.Core.List.{List, flatten}
use Rattle.std.proofs.Math.Seq.{paste}
use Rattle.basis.specs.Numbers.{FAULT, most_records, most_steps, row_count}
use Rattle.basis.specs.Order.{refused, accepted, answer}
use Rattle.record.specs.Bytes.{record_of, limits_order, read_order}
use Rattle.record.specs.Log.{ascending, log_of, records_of, sound_log}
use Rattle.record.specs.Place.{AtPlace}
use Rattle.record.specs.Part.{earlier}
use Rattle.record.specs.declared.bytes.Record.{Record}
use Rattle.clock.specs.Clock.{sound_clock}
use Rattle.clock.specs.Reading.{clock_order}
use Rattle.clock.specs.declared.Given.{Given}
use Rattle.clock.specs.History.{clock_after, accepted_after, last_of, NoneRefused, NoLongGap}
use Rattle.clock.specs.Statements.{FromOpening}
use Rattle.course.specs.World.{World, Lawful, after, rows_after}
use Rattle.course.specs.Session.{Session, Made, opening, one_step, row_of}
use Rattle.course.specs.Calls.{Call, reading, delivery, read, taken, held}
use Rattle.course.specs.Calls.{read_on, take_in, answer_to, next, run, session_after, Reached}
use Rattle.course.specs.Calls.{readings_of, found_in, Holds}
use Rattle.course.specs.Words.{WordWorld, world_of_words, Sized, Fits}

-- Demand 2, of a session as in demand 3.
pub record Demand2 {world : World} (s : Session world) : Type 0 where
  -- 'After n steps the state is the start state moved n times by that rule under the records held'
  pub state : s.made.state ≡ after world s.clock.steps s.log
  -- And the saved rows are those of n steps under the records held.
  pub rows : s.made.rows ≡ rows_after world s.clock.steps s.log
  -- 'The saved rows are 64 states':
  pub many : length s.made.rows ≡ row_count
  -- 'row t mod 64 holds the state before step t for the last 64 steps made';
  pub saved : (t : ℕ) → t < s.clock.steps → s.clock.steps ≤ t + row_count
      → row_of t s.made ≡ after world t s.log
  -- a row that no step has used is as opening filled it.
  pub unused : (i : ℕ) → s.clock.steps ≤ i → i < row_count
      → get_or s.made.rows i world.blank ≡ world.blank
  -- The state keeps the state rule.
  pub good : world.good s.made.state ≡ true
  -- 'Held records stand in the log buffer strictly ascending by step, then carrier';
  pub ascends : ascending s.log ≡ true
  -- 'at most 2,048';
  pub few : length s.log ≤ most_records
  -- rules 3 to 5 refuse none of them.
  pub limits : (r : Record) → Holds s r → answer (limits_order world.carriers r) ≡ accepted r
  -- The clock's words are sound.
  pub clock : sound_clock world.length s.clock ≡ true
  -- 'A session makes at most 180,000.'
  pub steps : s.clock.steps ≤ most_steps
  -- No call is answered 14.
  pub no_fault : (call : Call) → answer_to s call ≢ refused FAULT

-- 'replay from the log gives the same' (demand 2), of the held part of a session's log.
pub record Replay {world : World} (s : Session world) : Type 0 where
  -- Its bytes pass rule 13.
  pub sound : sound_log world.carriers (log_of s.log) ≡ true
  -- The state after as many steps under the records read from them is the session's.
  pub state : after world s.clock.steps (records_of (log_of s.log)) ≡ s.made.state

-- 'From opening on', of the session that calls lead to.
pub record FromHistory (world : World) (first : ℕ) (calls : List Call) : Type 0 where
  -- Its clock is that of the readings among the calls.
  pub clock : (session_after world first calls).clock
      ≡ clock_after world.length first (readings_of calls)
  -- The time equation, with 'the cut time .. defined from the history of accepted readings'.
  pub time :
      FromOpening
      world.length
      first
      (accepted_after world.length first (readings_of calls))
      (session_after world first calls).clock

-- Two sessions have equal state, saved rows and log, 'and are those of demand 2'.
pub record Same {world : World} (s u : Session world) : Type 0 where
  pub state : s.made.state ≡ u.made.state
  pub rows : s.made.rows ≡ u.made.rows
  pub log : s.log ≡ u.log
  pub demand2 : Demand2 s

-- Demand 3, of sessions on one world.
pub record Demand3 (world : World) : Type 0 where
  -- 'If at the end both have made the same number of steps and hold the same records, then state,
  -- saved rows, log .. are equal, and are those of demand 2.'
  pub converge : (s u : Session world) → Reached s → Reached u
      → s.clock.steps ≡ u.clock.steps → ((r : Record) → Holds s r ↔ Holds u r) → Same s u
  -- 'A record once taken and sent again is answered HELD and changes nothing', whatever came
  -- between.
  pub again : (s new : Session world) (bytes : List ℕ) (between : List Call)
      → answer_to s (delivery bytes) ≡ accepted (taken new)
      → (answer_to (run new between) (delivery bytes) ≡ accepted held)
      × (next (run new between) (delivery bytes) ≡ run new between)
  -- 'Two records for different places, delivered one right after the other and both taken, are both
  -- taken in the other order', and end alike. (Both taken, their places do differ: `apart`.)
  pub swap : (s t u : Session world) (a b : List ℕ) → Reached s
      → answer_to s (delivery a) ≡ accepted (taken t)
      → answer_to t (delivery b) ≡ accepted (taken u)
      → (v : Session world)
      × (answer_to s (delivery b) ≡ accepted (taken v))
      × (answer_to v (delivery a) ≡ accepted (taken u))
  pub apart : (s t u : Session world) (a b : List ℕ)
      → answer_to s (delivery a) ≡ accepted (taken t)
      → answer_to t (delivery b) ≡ accepted (taken u)
      → (record_of a).step ≡ (record_of b).step → (record_of a).carrier ≢ (record_of b).carrier
  -- 'Two lists of readings that begin at opening, with the same first and last, none refused and no
  -- gap over 250,000 microseconds, give equal steps and remainder', whatever is delivered between.
  pub grouping : (first : ℕ) (calls others : List Call)
      → NoneRefused world.length first (readings_of calls)
      → NoneRefused world.length first (readings_of others)
      → NoLongGap first (readings_of calls)
      → NoLongGap first (readings_of others)
      → last_of first (readings_of calls) ≡ last_of first (readings_of others)
      → ((session_after world first calls).clock.steps
      ≡ (session_after world first others).clock.steps)
      × ((session_after world first calls).clock.remainder
      ≡ (session_after world first others).clock.remainder)

-- 'A record can't reach back.' (document 02, §10)
pub record Reach (world : World) : Type 0 where
  -- 'two sessions as in demand 3, opened on one world, whose held records agree for all steps below
  -- n have the same state after n steps'
  pub state : (s u : Session world) → Reached s → Reached u → (n : ℕ)
      → ((r : Record) → r.step < n → Holds s r ↔ Holds u r)
      → after world n s.log ≡ after world n u.log
  -- 'taking a record for step s changes no saved row for step s or earlier'
  pub rows : (s new : Session world) (bytes : List ℕ) → Reached s
      → answer_to s (delivery bytes) ≡ accepted (taken new)
      → (t : ℕ) → t ≤ (record_of bytes).step → t < s.clock.steps → s.clock.steps ≤ t + row_count
      → row_of t new.made ≡ row_of t s.made
  -- 'records for step n or later .. move nothing' (document 01, replay)
  pub later : (n : ℕ) (log : List Record) → after world n (earlier n log) ≡ after world n log

-- 'each given exactly when its rule says' (demand 1), of every call on a session as in demand 3.
pub record ExactlyWhen {world : World} (s : Session world) : Type 0 where
  -- A reading is refused where the clock refuses it, with the clock's number;
  pub unread : (t number : ℕ)
      → answer (clock_order world.length s.clock t) ≡ refused number
      → answer_to s (reading t) ≡ refused number
  -- otherwise the steps that the clock gives are made.
  pub reads : (t : ℕ) (given : Given)
      → answer (clock_order world.length s.clock t) ≡ accepted given
      → answer_to s (reading t) ≡ accepted (read (read_on s given))
  -- A delivery is refused where rules 2 to 5 refuse its bytes, with their number;
  pub malformed : (bytes : List ℕ) (number : ℕ)
      → answer (read_order world.carriers bytes) ≡ refused number
      → answer_to s (delivery bytes) ≡ refused number
  -- otherwise its record's place decides.
  pub at_place : (bytes : List ℕ) (r : Record)
      → answer (read_order world.carriers bytes) ≡ accepted r
      → AtPlace r (found_in s r) held (taken (take_in s r)) (answer_to s (delivery bytes))
  -- 1: 'the same 8 bytes are already held', so the same record.
  pub same : (bytes : List ℕ) (r : Record)
      → answer (read_order world.carriers bytes) ≡ accepted r
      → (answer_to s (delivery bytes) ≡ accepted held) ↔ Holds s r
  -- 'a refusal changes no session'
  pub refusal : (call : Call) (number : ℕ) → answer_to s call ≡ refused number → next s call ≡ s

-- The saved rows laid end to end: 'The saved rows are 64 states, 320·B words'
pub record FlatRows {A : Type 0} (words : WordWorld A) (made : Made (world_of_words words))
    : Type 0 where
  -- '320·B words'
  pub long : length (flatten made.rows) ≡ row_count * words.width
  -- Row t mod 64 lies at its number times the width.
  pub row : (t : ℕ)
      → row_of t made
      ≡ take words.width (drop (t % row_count * words.width) (flatten made.rows))
  -- A step writes the words of the state before it over that row.
  pub saved : (log : List Record) (t : ℕ)
      → flatten (one_step log t made).rows
      ≡ paste (flatten made.rows) (t % row_count * words.width) made.state words.width

-- All of it, of any lawful world: the records above, of every session as in demand 3.
pub record OnEveryWorld : Type 1 where
  pub demand2 : (world : World) → Lawful world → (s : Session world) → Reached s → Demand2 s
  pub replay : (world : World) → Lawful world → (s : Session world) → Reached s → Replay s
  pub demand3 : (world : World) → Lawful world → Demand3 world
  pub from_history : (world : World) → Lawful world → (first : ℕ) (calls : List Call)
      → FromHistory world first calls
  pub reach : (world : World) → Lawful world → Reach world
  pub exactly_when : (world : World) → Lawful world → (s : Session world) → Reached s → ExactlyWhen s
  -- Of words: what a session as in demand 3 has made fits; where it fits, the rows lie so.
  pub fits : {A : Type 0} (words : WordWorld A) → Lawful (world_of_words words) → Sized words
      → (s : Session (world_of_words words)) → Reached s → Fits words s.made
  pub flat_rows : {A : Type 0} (words : WordWorld A) (made : Made (world_of_words words))
      → Fits words made → FlatRows words made
  -- 'Opening fills rows .. with zeros.'
  pub opened : {A : Type 0} (words : WordWorld A) (first : ℕ)
      → flatten (opening (world_of_words words) first).made.rows
      ≡ replicate (row_count * words.width) words.zero
