-- What a function of the C face answers by a number, and what it leaves in the lent slices.
use Rattle.std.specs.Prelude.{ℕ, List, [], ◌∷◌, ℤ, length}
use Rattle.basis.specs.Filled.{Filled, fill}
use Rattle.basis.specs.Order.{Answer, refused, accepted}
use Rattle.record.specs.Buffer.{buffer_of}
use Rattle.record.specs.declared.bytes.Record.{Record}
use Rattle.session.specs.Calls.{Delivery}
use Rattle.session.specs.Lent.{Lent, Made}
use Rattle.session.specs.declared.Session.{Session}
use Rattle.station.specs.Words.{session_words}

-- 'An accepted call other than a delivery gives its result and none of these numbers': 255 isn't
-- one of them.
abbrev pub DONE : ℕ
DONE = 255

-- A call that may change one slice alone: 255, or 'the number comes back, and .. all lent bytes and
-- words are as before'.
abbrev pub fills : {A : Type 0} → List A → Answer (List A) → Filled ℕ A
fills = fill DONE (λ number. number)

-- A call that may change the state, the rows, the log and the session: what it answers, and how it
-- leaves them.
pub record Left : Type 0 where
  pub number : ℕ
  pub state : List ℤ
  pub rows : List ℤ
  pub log : List ℕ
  pub session : List ℕ

-- The five, as one.
abbrev pub left : ℕ → List ℤ → List ℤ → List ℕ → List ℕ → Left
left number state rows log session =
    record { number = number; state = state; rows = rows; log = log; session = session }

-- A refusal leaves all 'as before'; an accepted call what it makes, and its session's words. So a
-- delivery that is refused 7 leaves 7 and what was lent, and one that is taken 0, the new state,
-- rows and log, and the nine words of the new session.
abbrev pub leaves_by : {A : Type 0} → (A → ℕ) → (A → Session) → Lent → List ℕ → Answer (Made A)
    → Left
leaves_by itsNumber itsSession l words (refused number) =
    left number l.state l.rows l.log words
leaves_by itsNumber itsSession l words (accepted m) =
    left (itsNumber m.result) m.state m.rows m.log
    (session_words (itsSession m.result))

-- Opening and a reading: 255 and the session.
abbrev pub leaves_running : Lent → List ℕ → Answer (Made Session) → Left
leaves_running = leaves_by (λ session. DONE) (λ session. session)

-- A delivery: 0 or 1, and the session.
abbrev pub leaves_delivered : Lent → List ℕ → Answer (Made Delivery) → Left
leaves_delivered = leaves_by (λ delivery. delivery.number) (λ delivery. delivery.session)

-- A merge, which may change the buffer and the word of the count.
pub record Counted : Type 0 where
  pub number : ℕ
  pub out : List ℕ
  pub count : List ℕ

-- The three, as one.
abbrev pub counted : ℕ → List ℕ → List ℕ → Counted
counted number out count = record { number = number; out = out; count = count }

-- A refusal leaves both 'as before'; an accepted merge the buffer that holds the records of both
-- logs, and how many these are.
abbrev pub leaves_merged : List ℕ → List ℕ → Answer (List Record) → Counted
leaves_merged out count (refused number) = counted number out count
leaves_merged out count (accepted l) = counted DONE (buffer_of l) (length l ∷ [])
