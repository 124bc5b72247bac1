-- What the search of the covered cells answers: for contracts of parts only, no promise of its own.
use Rattle.std.specs.Prelude.{ℕ, ◌+◌, ◌-◌, ◌*◌, ◌/◌, ◌≤◌, ◌<◌, ◌≡◌, true, false, Option, None, Some, MatchOption, List, length, take, drop}
use Rattle.yard.specs.declared.world.Yard.{Yard}
use Rattle.yard.specs.declared.world.Size.{Size}
use Rattle.yard.specs.declared.place.Block.{Block}
use Rattle.yard.specs.declared.place.Cell.{Cell}
use Rattle.yard.specs.Free.{wall_at, wall}

-- None of the first n cells is a wall.
abbrev pub NoWall : List ℕ → ℕ → Type 0
NoWall cells n = (i : ℕ) → i < n → wall_at cells i ≡ false

-- What a search of cells answers: the first wall among them.
abbrev pub FirstWall : List ℕ → Option ℕ → Type 0
FirstWall cells found =
    MatchOption found (NoWall cells (length cells))
    (λ i. (i < length cells) × (wall_at cells i ≡ true) × NoWall cells i)

-- The cells of a row.
abbrev pub row_of : Yard → List ℕ → ℕ → List ℕ
row_of yard cells row = take yard.w (drop (row * yard.w) cells)

-- The cells under the box at (x, y).
abbrev pub block_of : Size → ℕ → ℕ → Block
block_of size x y =
    record {
      left = x / 256;
      right = (x + size.w - 1) / 256 + 1;
      top = y / 256;
      bottom = (y + size.h - 1) / 256 + 1;
    }

-- The cell lies in the block.
pub record InBlock (block : Block) (column row : ℕ) : Type 0 where
  pub left : block.left ≤ column
  pub right : column < block.right
  pub top : block.top ≤ row
  pub bottom : row < block.bottom

-- No cell of the block is a wall.
abbrev pub Open : Yard → List ℕ → Block → Type 0
Open yard cells block =
    (column row : ℕ) → InBlock block column row → wall yard cells column row ≡ false

-- The cell is the block's first wall: lowest row, then lowest column.
pub record FirstInBlock (yard : Yard) (cells : List ℕ) (block : Block) (column row : ℕ)
    : Type 0 where
  pub inside : InBlock block column row
  pub there : wall yard cells column row ≡ true
  pub rows : (c r : ℕ) → InBlock block c r → r < row → wall yard cells c r ≡ false
  pub columns : (c : ℕ) → InBlock block c row → c < column → wall yard cells c row ≡ false

-- What a search of the block answers.
abbrev pub Finds : Yard → List ℕ → Block → Option Cell → Type 0
Finds yard cells block None = Open yard cells block
Finds yard cells block (Some cell) = FirstInBlock yard cells block cell.column cell.row
