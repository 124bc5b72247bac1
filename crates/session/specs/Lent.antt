-- What a call is lent, what it leaves of it, and the world and the records that they hold.
use Rattle.std.specs.Prelude.{ℕ, List, ℤ}
use Rattle.basis.specs.Order.{Answer, refused, accepted}
use Rattle.record.specs.Log.{records}
use Rattle.record.specs.declared.bytes.Record.{Record}
use Rattle.fleet.specs.State.{World, world_of}
use Rattle.session.specs.declared.Session.{Session}
use Rattle.session.specs.declared.Buffers.{Buffers}

-- The lent slices, in the order in which every call takes them.
pub record Lent : Type 0 where
  pub cells : List ℕ
  pub boxes : List ℤ
  pub state : List ℤ
  pub rows : List ℤ
  pub log : List ℕ

-- The five slices, as one.
abbrev pub lent : List ℕ → List ℤ → List ℤ → List ℤ → List ℕ → Lent
lent cells boxes state rows log =
    record { cells = cells; boxes = boxes; state = state; rows = rows; log = log }

-- What the code's buffers hold.
abbrev pub lent_of : Buffers → Lent
lent_of b = lent b.cells.now b.boxes.now b.state.now b.rows.now b.log.now

-- The world that a session's W, H, B and the lent cells and boxes make.
abbrev pub world_in : Session → Lent → World
world_in session l = world_of session.yard l.cells l.boxes

-- The records that the session holds, in the lent log.
abbrev pub held_in : Session → Lent → List Record
held_in session l = records session.held l.log

-- What a call gives, and what it leaves in the buffers that it may change.
pub record Made (A : Type 0) : Type 0 where
  pub result : A
  pub state : List ℤ
  pub rows : List ℤ
  pub log : List ℕ

-- The result and the three buffers, as one.
abbrev pub made : {A : Type 0} → A → List ℤ → List ℤ → List ℕ → Made A
made result state rows log = record { result = result; state = state; rows = rows; log = log }

-- This is answered, and 'all lent bytes and words are as before'.
abbrev pub as_before : {A : Type 0} → A → Lent → Made A
as_before result l = made result l.state l.rows l.log

-- The same buffers, with the result as `says` reads it.
abbrev pub tells : {A C : Type 0} → (C → A) → Made C → Made A
tells says m = made (says m.result) m.state m.rows m.log

-- 'a refusal changes no session and no buffer'; an accepted call leaves what it makes.
abbrev pub leaves : {A : Type 0} → Lent → Answer (Made A) → Made (Answer A)
leaves l (refused number) = as_before (refused number) l
leaves l (accepted m) = tells accepted m
