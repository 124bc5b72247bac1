-- What the functions over a world, a log and the buffers are given; the session has tested it.
use Rattle.std.specs.Prelude.{ℕ, ◌*◌, ◌/◌, ◌≤◌, ◌≡◌, List, true, ℤ, length}
use Rattle.basis.specs.Numbers.{most_records, row_count}
use Rattle.record.specs.Log.{ascending, records, none_refused}
use Rattle.yard.specs.Boxes.{CellsFit, BoxesFit}
use Rattle.yard.specs.Rule9.{sizes_hold}
use Rattle.fleet.specs.State.{World, state_words, sound_state}

-- W, H and B not above their ranges, lengths as at opening, and every size in range.
pub record WorldFits (world : World) : Type 0 where
  pub laid : CellsFit world.yard world.cells
  pub room : BoxesFit world.yard world.boxes
  pub sizes : sizes_hold world.yard world.boxes ≡ true

-- A log of which the first so many records ascend, none of them refused for this B.
pub record LogFits (world : World) (held : ℕ) (log : List ℕ) : Type 0 where
  pub few : held ≤ most_records
  pub room : 8 * held ≤ length log
  pub unrefused : none_refused world.yard.b held log ≡ true
  pub ascends : ascending (records held log) ≡ true

-- A log whose length alone says how many records it has, so.
abbrev pub WholeLogFits : World → List ℕ → Type 0
WholeLogFits world log = LogFits world (length log / 8) log

-- A state of the right length, each carrier sound.
pub record StateFits (world : World) (state : List ℤ) : Type 0 where
  pub room : length state ≡ state_words world
  pub sound : sound_state world state ≡ true

-- 'The saved rows are 64 states, 320·B words'.
abbrev pub RowsFit : World → List ℤ → Type 0
RowsFit world rows = length rows ≡ row_count * state_words world
