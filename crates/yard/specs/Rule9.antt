-- Document 01, rule 9 (WORLD): a test for each of its parts, in their order.
use Rattle.std.specs.Prelude.{ℕ, Bool, ◌&&◌, List, leb, ℤ, pos, get_or, length}
use Rattle.basis.specs.Numbers.{most_carriers}
use Rattle.yard.specs.declared.world.Yard.{Yard}
use Rattle.yard.specs.Ranges.{between, from_one, every}
use Rattle.yard.specs.Boxes.{word, size_of}
use Rattle.yard.specs.Free.{free}

-- No 'W, H or B out of range': 'each of W and H from 1 to 64', 'B carriers, 1 to 32'.
unfoldable pub ranges_hold : Yard → Bool
ranges_hold yard =
    from_one yard.w 64
    && from_one yard.h 64
    && from_one yard.b most_carriers

-- No 'cell byte above 1'.
unfoldable pub cells_hold : List ℕ → Bool
cells_hold cells = every (length cells) (λ i. leb (get_or cells i 0) 1)

-- Carrier i: 'a box of width w and height h, each 1 to 1,024 units'.
unfoldable pub size_holds : List ℤ → ℕ → Bool
size_holds boxes i =
    between (pos 1) (word boxes i 2) (pos 1024)
    && between (pos 1) (word boxes i 3) (pos 1024)

-- No 'size out of range'.
unfoldable pub sizes_hold : Yard → List ℤ → Bool
sizes_hold yard boxes = every yard.b (size_holds boxes)

-- Carrier i is free at its x and y.
unfoldable pub start_holds : Yard → List ℕ → List ℤ → ℕ → Bool
start_holds yard cells boxes i =
    free yard cells (size_of boxes i) (word boxes i 0) (word boxes i 1)

-- No 'start that isn't free'.
unfoldable pub starts_hold : Yard → List ℕ → List ℤ → Bool
starts_hold yard cells boxes = every yard.b (start_holds yard cells boxes)
