-- 'each given exactly when its rule says' (demand 1): the numbers of each call of `session`, one
-- field a number, in plain facts. On the left what comes out, all lent as before; on the right what
-- has passed, in document 01's order, and last what fails. No test stands among them. The number of
-- each refusal is `number_of` in basis: that of `why.World` is 9.
use Rattle.std.specs.Prelude.{ℕ, ◌+◌, ◌-◌, ◌<◌, ◌≤◌, ◌≡◌, ◌↔◌, ◌⊎◌, ◌≢◌, List, ℤ, Result, Ok, Err}
use Rattle.basis.specs.Filled.{Filled, filled}
use Rattle.basis.specs.declared.Refusal.{Refusal}
use Rattle.basis.specs.declared.Refusal.TheVariants as why
use Rattle.record.specs.Log.{records_of}
use Rattle.record.specs.Facts.{Formed, Readable, LogValid}
use Rattle.record.specs.declared.bytes.Record.{Record}
use Rattle.clock.specs.Clock.{due}
use Rattle.clock.specs.Reading.{given_by}
use Rattle.digest.specs.Fnv.{digest_of}
use Rattle.digest.specs.Words.{state_bytes}
use Rattle.shown.specs.declared.Place.{Place}
use Rattle.yard.specs.declared.world.Yard.{Yard}
use Rattle.yard.specs.Facts.{InRange, Valid}
use Rattle.fleet.specs.State.{world_of}
use Rattle.fleet.specs.Run.{moved}
use Rattle.session.specs.declared.Session.{Session}
use Rattle.session.specs.declared.Delivered.{Delivered}
use Rattle.session.specs.declared.Delivered.TheVariants as delivered
use Rattle.session.specs.Lent.{Lent, Made, as_before, tells}
use Rattle.session.specs.Calls.{opened, read_on, take_in, shown_of}
use Rattle.session.specs.Facts.{Lengths, Room, Opens, Sound, RowSound, HeldHere, NoneHere}

-- 'Opening: ranges of W, H, B (9); lengths (10); cells, sizes, starts (9)', number by number.
pub record OpenNumbers (yard : Yard) (reading : ℕ) (l : Lent)
    (out : Made (Result Session Refusal)) : Type 0 where
  -- 9: 'W, H or B out of range'; or these and the lengths right, and one of the other three.
  pub world : (out ≡ as_before (Err why.World) l)
      ↔ ((InRange yard → ⊥)
      ⊎ (InRange yard × Room yard l × (Valid yard l.cells l.boxes → ⊥)))
  -- 10: the ranges right, and 'a lent length isn't exactly ..'
  pub room : (out ≡ as_before (Err why.Room) l)
      ↔ (InRange yard × (Room yard l → ⊥))
  -- Neither: the session opened.
  pub opened : (out ≡ tells Ok (opened yard reading l))
      ↔ (InRange yard × Room yard l × Valid yard l.cells l.boxes)

-- 'Reading: 14, 11, 12', number by number; t is the reading.
pub record ReadingNumbers (session : Session) (t : ℕ) (l : Lent)
    (out : Made (Result Session Refusal)) : Type 0 where
  -- 14: 'the session or a buffer handed back isn't sound'
  pub fault : (out ≡ as_before (Err why.Fault) l)
      ↔ (Sound session l → ⊥)
  -- 11: sound, and 'reading below the last reading'
  pub backward : (out ≡ as_before (Err why.Backward) l)
      ↔ (Sound session l × (t < session.clock.last))
  -- 12: neither, and 'steps made plus the steps due would pass 180,000'
  pub end : (out ≡ as_before (Err why.End) l)
      ↔ (Sound session l × (session.clock.last ≤ t)
      × (180000 < session.clock.steps + due 20000 session.clock t))
  -- None of the three: the session, and what the steps due leave.
  pub read : (out ≡ tells Ok (read_on session l (given_by 20000 session.clock t)))
      ↔ (Sound session l × (session.clock.last ≤ t)
      × (session.clock.steps + due 20000 session.clock t ≤ 180000))
  -- 'An equal reading is accepted and makes no step': session, state, rows and log stay as before.
  pub equal : Sound session l → t ≡ session.clock.last → out ≡ as_before (Ok session) l

-- 'Delivery: 14, 2, 3, 4, 5, then 1 or 6, then 7, 8, and last 14 for the row to be brought back',
-- number by number; r is the record in the bytes.
pub record DeliverNumbers (session : Session) (bytes : List ℕ) (r : Record) (l : Lent)
    (out : Made (Result Delivered Refusal)) : Type 0 where
  -- 2: sound, and 'not 8 bytes, or one of the last two isn't 0'
  pub malformed : (out ≡ as_before (Err why.Malformed) l)
      ↔ (Sound session l × (Formed bytes → ⊥))
  -- 3: not 2, and 'carrier number is B or more'
  pub carrier : (out ≡ as_before (Err why.Carrier) l)
      ↔ (Sound session l × Formed bytes × (session.yard.b ≤ r.carrier))
  -- 4: neither 2 nor 3, and 'lever above 9'
  pub lever : (out ≡ as_before (Err why.Lever) l)
      ↔ (Sound session l × Formed bytes × (r.carrier < session.yard.b) × (9 < r.lever))
  -- 5: none of 2, 3 and 4, and 'record step is 180,000 or more'
  pub step : (out ≡ as_before (Err why.Step) l)
      ↔ (Sound session l × Formed bytes × (r.carrier < session.yard.b) × (r.lever ≤ 9)
      × (180000 ≤ r.step))
  -- 1: rules 2 to 5 pass, and 'the same 8 bytes are already held; nothing changes'
  pub held : (out ≡ as_before (Ok (delivered.Held session)) l)
      ↔ (Sound session l × Readable session.yard.b bytes × HeldHere session l r r.lever)
  -- 6: rules 2 to 5 pass, and 'another lever is held at that place'
  pub conflict : (out ≡ as_before (Err why.Conflict) l)
      ↔ (Sound session l × Readable session.yard.b bytes
      × ((other : ℕ) × HeldHere session l r other × (other ≢ r.lever)))
  -- 7: none is held there, and 'record step + 64 is below the steps made'
  pub late : (out ≡ as_before (Err why.Late) l)
      ↔ (Sound session l × Readable session.yard.b bytes × NoneHere session l r
      × (r.step + 64 < session.clock.steps))
  -- 8: not 7, and '2,048 records are held'
  pub full : (out ≡ as_before (Err why.Full) l)
      ↔ (Sound session l × Readable session.yard.b bytes × NoneHere session l r
      × (session.clock.steps ≤ r.step + 64)
      × (2048 ≤ session.held))
  -- 14: not sound; or last, neither 7 nor 8, and 'the row to be brought back' isn't sound.
  pub fault : (out ≡ as_before (Err why.Fault) l)
      ↔ ((Sound session l → ⊥)
      ⊎ (Sound session l × Readable session.yard.b bytes × NoneHere session l r
      × (session.clock.steps ≤ r.step + 64) × (session.held < 2048)
      × (r.step < session.clock.steps) × (RowSound session l r.step → ⊥)))
  -- 0: none of these, and 'the record is now held'
  pub taken : (out ≡ tells (λ d. Ok (delivered.Taken d.session)) (take_in session l r))
      ↔ (Sound session l × Readable session.yard.b bytes × NoneHere session l r
      × (session.clock.steps ≤ r.step + 64) × (session.held < 2048)
      × ((session.clock.steps ≤ r.step) ⊎ RowSound session l r.step))

-- 'Replay: opening's order without rows .., then 13, then 5', number by number.
pub record ReplayNumbers (yard : Yard) (steps : ℕ) (cells : List ℕ) (boxes state : List ℤ)
    (log : List ℕ) (out : Filled (Result (Unit {0}) Refusal) ℤ) : Type 0 where
  -- 9: 'W, H or B out of range'; or these and the lengths right, and one of the other three.
  pub world : (out ≡ filled (Err why.World) state)
      ↔ ((InRange yard → ⊥)
      ⊎ (InRange yard × Lengths yard cells boxes state × (Valid yard cells boxes → ⊥)))
  -- 10: the ranges right, and 'a lent length isn't exactly ..'
  pub room : (out ≡ filled (Err why.Room) state)
      ↔ (InRange yard × (Lengths yard cells boxes state → ⊥))
  -- 13: neither 9 nor 10, and rule 13 refuses the log.
  pub bad_log : (out ≡ filled (Err why.Log) state)
      ↔ (Opens yard cells boxes state × (LogValid yard.b log → ⊥))
  -- 5: none of these, and 'replay of more than 180,000 steps'
  pub step : (out ≡ filled (Err why.Step) state)
      ↔ (Opens yard cells boxes state × LogValid yard.b log × (180000 < steps))
  -- None of the four: 'the state after n steps' is written.
  pub done : (out ≡ filled (Ok tt) (moved (world_of yard cells boxes) steps (records_of log)))
      ↔ (Opens yard cells boxes state × LogValid yard.b log × (steps ≤ 180000))

-- The digest, 'Unsound: 14.'
pub record DigestNumbers (session : Session) (l : Lent) (out : Result ℕ Refusal) : Type 0 where
  pub fault : (out ≡ Err why.Fault) ↔ (Sound session l → ⊥)
  pub value : (out ≡ Ok (digest_of (state_bytes session.clock.steps l.state)))
      ↔ Sound session l

-- The shown place, 'Order: 14, 3, then 14 for the row', number by number; i is the carrier. 'row
-- n-1; at n = 0, p is c': then no row is used.
pub record ShownNumbers (session : Session) (i : ℕ) (l : Lent) (out : Result Place Refusal)
    : Type 0 where
  -- 14: not sound; or last, the row before the last step isn't.
  pub fault : (out ≡ Err why.Fault)
      ↔ ((Sound session l → ⊥)
      ⊎ (Sound session l × (i < session.yard.b)
      × (0 < session.clock.steps) × (RowSound session l (session.clock.steps - 1) → ⊥)))
  -- 3: sound, and 'carrier number is B or more'
  pub carrier : (out ≡ Err why.Carrier) ↔ (Sound session l × (session.yard.b ≤ i))
  -- Neither: the place.
  pub place : (out ≡ Ok (shown_of session l i))
      ↔ (Sound session l × (i < session.yard.b)
      × (0 < session.clock.steps → RowSound session l (session.clock.steps - 1)))
