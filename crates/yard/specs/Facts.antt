-- Document 01, where a carrier is free, and rule 9, as plain facts: numbers compared, 'for every
-- cell', 'for every carrier'. No test stands among them.
use Rattle.std.specs.Prelude.{ℕ, ◌+◌, ◌*◌, ◌/◌, ◌≤◌, ◌<◌, ◌≡◌, ◌≢◌, List, ℤ, pos, negsuc, get_or, length}
use Rattle.yard.specs.declared.world.Yard.{Yard}
use Rattle.yard.specs.declared.world.Size.{Size}
use Rattle.yard.specs.Boxes.{word, size_of}

-- No 'W, H or B out of range': 'each of W and H from 1 to 64', 'B carriers, 1 to 32'.
pub record InRange (yard : Yard) : Type 0 where
  pub w : (1 ≤ yard.w) × (yard.w ≤ 64)
  pub h : (1 ≤ yard.h) × (yard.h ≤ 64)
  pub b : (1 ≤ yard.b) × (yard.b ≤ 32)

-- No 'cell byte above 1'.
abbrev pub CellsValid : List ℕ → Type 0
CellsValid cells = (i : ℕ) → i < length cells → get_or cells i 0 ≤ 1

-- A word from low to high, ends allowed, where low is at least 0.
abbrev pub FromTo : ℕ → ℕ → ℤ → Type 0
FromTo low high z = (n : ℕ) × (z ≡ pos n) × (low ≤ n) × (n ≤ high)

-- No 'size out of range': of each carrier w and h, 'each 1 to 1,024 units'.
abbrev pub SizesValid : Yard → List ℤ → Type 0
SizesValid yard boxes =
    (i : ℕ) → i < yard.b → FromTo 1 1024 (word boxes i 2) × FromTo 1 1024 (word boxes i 3)

-- The box at (x, y) ends in the yard, touching allowed, and no unit square (p, q) of it lies in a
-- wall cell: '256 units are one cell', 'row by row from row 0', '1 is wall'.
pub record Clear (yard : Yard) (cells : List ℕ) (size : Size) (x y : ℕ) : Type 0 where
  pub right : x + size.w ≤ 256 * yard.w
  pub bottom : y + size.h ≤ 256 * yard.h
  pub squares : (p q : ℕ) → x ≤ p → p < x + size.w → y ≤ q → q < y + size.h
      → get_or cells (q / 256 * yard.w + p / 256) 0 ≢ 1

-- 'It is *free* there if x and y are at least 0', and it is clear: `negsuc n` is -(n + 1).
abbrev pub FreeAt : Yard → List ℕ → Size → ℤ → ℤ → Type 0
FreeAt yard cells size (pos x) (pos y) = Clear yard cells size x y
FreeAt yard cells size (pos x) (negsuc y) = ⊥
FreeAt yard cells size (negsuc x) y = ⊥

-- No 'start that isn't free': each carrier is free at its x and y.
abbrev pub StartsFree : Yard → List ℕ → List ℤ → Type 0
StartsFree yard cells boxes =
    (i : ℕ) → i < yard.b → FreeAt yard cells (size_of boxes i) (word boxes i 0) (word boxes i 1)

-- 'cells, sizes, starts': no part of rule 9 after the ranges refuses.
pub record Valid (yard : Yard) (cells : List ℕ) (boxes : List ℤ) : Type 0 where
  pub bytes : CellsValid cells
  pub sizes : SizesValid yard boxes
  pub starts : StartsFree yard cells boxes
