-- Document 01, rule 10, '*Sound* means', and what a record finds held, as plain facts: numbers and
-- lengths compared, 'for every carrier'. No test stands among them.
use Rattle.std.specs.Prelude.{ℕ, ◌+◌, ◌*◌, ◌-◌, ◌<◌, ◌≤◌, ◌≡◌, ℤ, length}
use mathlib.Core.List.{List, Memᴰ}
use Rattle.basis.specs.Numbers.{row_count}
use Rattle.record.specs.Facts.{BufferValid}
use Rattle.record.specs.declared.bytes.Record.{Record}
use Rattle.yard.specs.declared.world.Yard.{Yard}
use Rattle.yard.specs.Facts.{InRange, CellsValid, SizesValid, Valid}
use Rattle.fleet.specs.State.{carrier_words}
use Rattle.fleet.specs.Facts.{StateSound}
use Rattle.session.specs.declared.Session.{Session}
use Rattle.session.specs.Lent.{Lent, world_in, held_in}
use Rattle.session.specs.Calls.{row_in}

-- Rule 10 without rows and log: 'exactly W·H cell bytes, 4·B world words, 5·B state words'.
pub record Lengths (yard : Yard) (cells : List ℕ) (boxes state : List ℤ) : Type 0 where
  pub cell_bytes : length cells ≡ yard.w * yard.h
  pub world_words : length boxes ≡ 4 * yard.b
  pub state_words : length state ≡ carrier_words * yard.b

-- Rule 10 whole: also '320·B row words, 16,384 log bytes'.
pub record Room (yard : Yard) (l : Lent) : Type 0 where
  pub lengths : Lengths yard l.cells l.boxes l.state
  pub row_words : length l.rows ≡ row_count * (carrier_words * yard.b)
  pub log_bytes : length l.log ≡ 16384

-- 'opening's order without rows' passes this world.
pub record Opens (yard : Yard) (cells : List ℕ) (boxes state : List ℤ) : Type 0 where
  pub ranges : InRange yard
  pub lengths : Lengths yard cells boxes state
  pub valid : Valid yard cells boxes

-- '*Sound* means', part by part in its order.
pub record Sound (session : Session) (l : Lent) : Type 0 where
  -- 'ranges and lengths as at opening;
  pub ranges : InRange session.yard
  pub room : Room session.yard l
  -- cells and sizes valid;
  pub cells : CellsValid l.cells
  pub sizes : SizesValid session.yard l.boxes
  -- steps, remainder and held count within their limits;
  pub steps : session.clock.steps ≤ 180000
  pub remainder : session.clock.remainder < 20000
  pub held : session.held ≤ 2048
  -- the time equation holds', with the first reading not above the last;
  pub forward : session.clock.first ≤ session.clock.last
  pub time : session.clock.last - session.clock.first
      ≡ 20000 * session.clock.steps + session.clock.remainder + session.clock.cut
  -- 'the log as described above, by rule 13 with this session's B;
  pub log : BufferValid session.yard.b session.held l.log
  -- each carrier of the current state free, speeds within 200 either way, lever 0 to 9'.
  pub state : StateSound (world_in session l) l.state

-- 'A row is tested, by the same state rule': row t mod 64.
abbrev pub RowSound : Session → Lent → ℕ → Type 0
RowSound session l t = StateSound (world_in session l) (row_in session l t)

-- A record of this lever is held at the place of r.
abbrev pub HeldHere : Session → Lent → Record → ℕ → Type 0
HeldHere session l r lever =
    Memᴰ (record { step = r.step; carrier = r.carrier; lever = lever }) (held_in session l)

-- None is held there.
abbrev pub NoneHere : Session → Lent → Record → Type 0
NoneHere session l r = (lever : ℕ) → HeldHere session l r lever → ⊥
