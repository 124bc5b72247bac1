-- The contract of each public entry, by name: what was given, and what came out. A clause is
-- nothing but its name.
use Rattle.std.specs.Prelude.{ℕ, ◌≡◌, Bool, List, ℤ, nat_abs}
use Rattle.yard.specs.declared.world.Yard.{Yard}
use Rattle.yard.specs.Rule9.{ranges_hold, cells_hold}

-- `ranges_hold`
abbrev pub RangesHoldSays : Yard → Bool → Type 0
RangesHoldSays yard out = out ≡ ranges_hold yard

-- `cells_hold`
abbrev pub CellsHoldSays : List ℕ → Bool → Type 0
CellsHoldSays cells out = out ≡ cells_hold cells

-- `magnitude`
abbrev pub MagnitudeSays : ℤ → ℕ → Type 0
MagnitudeSays z out = out ≡ nat_abs z
