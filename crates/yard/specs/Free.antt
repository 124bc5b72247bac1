-- Document 01, 'The yard and its carriers': where a carrier is free.
use Rattle.std.specs.Prelude.{ℕ, ◌+◌, ◌*◌, max, min, Bool, false, not, ◌&&◌, List, leb, ltb, eqb, ℤ, pos, negsuc, get_or}
use Rattle.yard.specs.declared.world.Yard.{Yard}
use Rattle.yard.specs.declared.world.Size.{Size}
use Rattle.yard.specs.declared.world.Ground.{Ground}
use Rattle.yard.specs.Ranges.{every}

-- '0 is open, 1 is wall': the cell byte at an index.
abbrev pub wall_at : List ℕ → ℕ → Bool
wall_at cells i = eqb (get_or cells i 0) 1

-- 'one byte per cell, row by row from row 0': the cell at a column and a row is a wall.
unfoldable pub wall : Yard → List ℕ → ℕ → ℕ → Bool
wall yard cells column row = wall_at cells (row * yard.w + column)

-- The half-open spans a to a + m and b to b + n share a unit.
unfoldable pub share : ℕ → ℕ → ℕ → ℕ → Bool
share a m b n = ltb (max a b) (min (a + m) (b + n))

-- The box at (x, y) shares a unit square with the cell; '256 units are one cell'.
unfoldable pub covers : Size → ℕ → ℕ → ℕ → ℕ → Bool
covers size x y column row =
    share x size.w (256 * column) 256
    && share y size.h (256 * row) 256

-- 'no wall cell shares a unit square with it': of every row and column, no wall there is covered.
-- `Clear` of specs/Facts.antt says it of each unit square of the box; `Free.means` that both agree.
unfoldable pub no_wall : Yard → List ℕ → Size → ℕ → ℕ → Bool
no_wall yard cells size x y =
    every yard.h
    (λ row. every yard.w
    (λ column. not (wall yard cells column row && covers size x y column row)))

-- 'if x and y are at least 0, x+w is at most 256·W, y+h at most 256·H, and no wall cell ..'
unfoldable pub free : Yard → List ℕ → Size → ℤ → ℤ → Bool
free yard cells size (pos x) (pos y) =
    leb (x + size.w) (256 * yard.w)
    && leb (y + size.h) (256 * yard.h)
    && no_wall yard cells size x y
free yard cells size (pos x) (negsuc y) = false
free yard cells size (negsuc x) y = false

-- Where the carrier is free that moves here: on these cells, with this size.
abbrev pub free_on : Ground → ℤ → ℤ → Bool
free_on here = free here.yard here.cells.now here.size
