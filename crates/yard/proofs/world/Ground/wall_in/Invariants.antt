use Prim.Native.Nat.{ℕ, ◌≤◌}
use Rattle.yard.specs.declared.place.Block.{Block}
use Rattle.yard.specs.Search.{Open}
use Rattle.yard.proofs.world.Ground.wall_in.Given as goal

-- The rows of a block above a row.
abbrev pub above : Block → ℕ → Block
above block row =
    record { left = block.left; right = block.right; top = block.top; bottom = row }

abbrev pub invariant-loop-row : goal.invariant-loop-row
invariant-loop-row l =
    (l.block.top ≤ l.row) × (l.row ≤ l.block.bottom)
    × Open l.self.yard l.self.cells.now (above l.block l.row)
