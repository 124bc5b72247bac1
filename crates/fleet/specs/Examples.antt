-- Document 01, 'The program': the practice yard, which fits what the functions are given.
use Rattle.std.specs.Prelude.{ℕ, List, [], ◌∷◌, pos}
use Rattle.fleet.specs.State.{World, world_of, start_state}
use Rattle.fleet.specs.Fits.{WorldFits, LogFits, StateFits}

-- 'the only wall at column 3, row 1', row by row.
abbrev pub practice_cells : List ℕ
practice_cells =
    0 ∷ 0 ∷ 0 ∷ 0
    ∷ 0 ∷ 0 ∷ 0 ∷ 1
    ∷ 0 ∷ 0 ∷ 0 ∷ 0 ∷ []

-- 'the practice yard: W 4, H 3', 'one carrier 256 by 256 at (0, 256)'
abbrev pub practice : World
practice =
    world_of (record { w = 4; h = 3; b = 1 }) practice_cells
    (pos 0 ∷ pos 256 ∷ pos 256 ∷ pos 256 ∷ [])

-- 'records (0, 0, 1) and (2, 0, 9)', their bytes.
abbrev pub two_records : List ℕ
two_records =
    0 ∷ 0 ∷ 0 ∷ 0 ∷ 0 ∷ 1 ∷ 0 ∷ 0
    ∷ 2 ∷ 0 ∷ 0 ∷ 0 ∷ 0 ∷ 9 ∷ 0 ∷ 0 ∷ []

-- `WorldFits`, `LogFits` and `StateFits` are met: by this yard, a log for it, and its start.
pub record Practice : Type 0 where
  -- The world and the log fit, and the start is sound.
  pub world : WorldFits practice
  pub log : LogFits practice 2 two_records
  pub start : StateFits practice (start_state practice)
