-- What is claimed of the yard. proofs/Statements.antt proves each record whole.
use Rattle.std.specs.Prelude.{ℕ, ◌+◌, ◌≤◌, ◌<◌, ◌≡◌, ◌↔◌, Bool, true, false, Option, List, ℤ, pos, nat_abs, length, ◌≤ℤ◌}
use Rattle.basis.specs.Order.{Determines}
use Rattle.yard.specs.declared.world.Yard.{Yard}
use Rattle.yard.specs.declared.world.Size.{Size}
use Rattle.yard.specs.declared.levers.Axis.{Axis}
use Rattle.yard.specs.declared.carrier.Carrier.{Carrier}
use Rattle.yard.specs.Ranges.{every, minus}
use Rattle.yard.specs.Boxes.{CellsFit}
use Rattle.yard.specs.Free.{free}
use Rattle.yard.specs.Rule9.{ranges_hold, cells_hold, sizes_hold, starts_hold}
use Rattle.yard.specs.Facts.{InRange, CellsValid, FromTo, SizesValid, FreeAt, StartsFree}
use Rattle.yard.specs.Says.{RangesHoldSays, CellsHoldSays, MagnitudeSays}
use Rattle.yard.specs.Levers.{along, pushes, push_of, new_speed, brake, braked}
use Rattle.yard.specs.Slide.{clear_on, distance}
use Rattle.yard.specs.Step.{LeverFits, at_rest, step, sound_carrier}

-- 'The yard and its carriers': what free means.
pub record Free : Type 0 where
  -- In the yard, touching allowed, and no unit square of the box in a wall cell.
  pub means : (yard : Yard) (cells : List ℕ) (size : Size) (x y : ℤ)
      → (free yard cells size x y ≡ true) ↔ FreeAt yard cells size x y
  -- A place that is free is at most 16,384 units from 0, so no sum on it wraps.
  pub near : (yard : Yard) (cells : List ℕ) (size : Size) (x y : ℤ) → CellsFit yard cells
      → free yard cells size x y ≡ true → (nat_abs x ≤ 16384) × (nat_abs y ≤ 16384)

-- 'any two outcomes allowed by it coincide', for the contract of each public entry.
pub record Determined : Type 0 where
  -- `ranges_hold`
  pub ranges : (yard : Yard) → Determines (RangesHoldSays yard)
  -- `cells_hold`
  pub cells : (cells : List ℕ) → Determines (CellsHoldSays cells)
  -- `magnitude`
  pub magnitude : (z : ℤ) → Determines (MagnitudeSays z)

-- Rule 9, part by part in their order: each test holds if and only if that part refuses nothing.
pub record Rule9 : Type 0 where
  pub ranges : (yard : Yard) → (ranges_hold yard ≡ true) ↔ InRange yard
  pub cells : (cells : List ℕ) → (cells_hold cells ≡ true) ↔ CellsValid cells
  pub sizes : (yard : Yard) (boxes : List ℤ) → (sizes_hold yard boxes ≡ true) ↔ SizesValid yard boxes
  pub starts : (yard : Yard) (cells : List ℕ) (boxes : List ℤ)
      → (starts_hold yard cells boxes ≡ true) ↔ StartsFree yard cells boxes

-- How a test of every number below n reads, in rule 9 and in `no_wall`.
pub record Every : Type 0 where
  -- It passes if and only if each number passes.
  pub means : (test : ℕ → Bool) (n : ℕ)
      → (every n test ≡ true) ↔ ((k : ℕ) → k < n → test k ≡ true)

-- 'Levers': the table, and speeds.
pub record Table : Type 0 where
  -- 'one pair of pushes for each position', 0 to 8.
  pub nine : length pushes ≡ 9
  -- No push is above 12 either way, by one test over the table.
  pub push : (axis : Axis) (lever : ℕ)
      → nat_abs (along axis (push_of lever).x (push_of lever).y) ≤ 12
  -- A new speed is within 200 either way where the old one is.
  pub speed : (axis : Axis) (lever : ℕ) (old : ℤ) → nat_abs old ≤ 200
      → nat_abs (new_speed axis lever old) ≤ 200

-- 'The brake takes 10 units off each speed per step, toward zero, and never past it' (02 §2).
pub record Brake : Type 0 where
  -- 'takes 10 units off': exactly 10, of a speed of 10 or more either way.
  pub ten : (speed : ℤ) → 10 ≤ nat_abs speed → nat_abs (brake speed) + 10 ≡ nat_abs speed
  -- 'never past it': a smaller one becomes 0.
  pub past : (speed : ℤ) → nat_abs speed ≤ 10 → brake speed ≡ pos 0
  -- 'toward zero': no speed grows or changes its sign.
  pub forward : (speed : ℤ) → pos 0 ≤ℤ speed → (pos 0 ≤ℤ brake speed) × (brake speed ≤ℤ speed)
  pub backward : (speed : ℤ) → speed ≤ℤ pos 0 → (speed ≤ℤ brake speed) × (brake speed ≤ℤ pos 0)
  -- Any speed within 200 either way is 0 after 20 steps of braking, or before.
  pub stands : (speed : ℤ) → nat_abs speed ≤ 200 → (steps : ℕ) → 20 ≤ steps
      → braked steps speed ≡ pos 0
  -- '25 becomes 15, then 5, then 0; -3 becomes 0.'
  pub from25 : (braked 1 (pos 25) ≡ pos 15) × (braked 2 (pos 25) ≡ pos 5)
      × (braked 3 (pos 25) ≡ pos 0)
  pub from_minus3 : braked 1 (minus 3) ≡ pos 0

-- Parts 3 and 4 of 'One step': so many units are moved, whatever places are free.
pub record Walked (free : ℤ → ℤ → Bool) (axis : Axis) (speed x y : ℤ) (units : ℕ) : Type 0 where
  -- 'up to |u| units'
  pub most : units ≤ nat_abs speed
  -- Every place moved to is free.
  pub passed : (k : ℕ) → 0 < k → k ≤ units → clear_on free axis speed x y k ≡ true
  -- 'stopping before the first place that isn't free'
  pub stopped : units < nat_abs speed → clear_on free axis speed x y (units + 1) ≡ false

-- Parts 3 and 4 of 'One step': the definition is that and nothing else.
pub record Move : Type 0 where
  -- The distance is walked so.
  pub walked : (free : ℤ → ℤ → Bool) (axis : Axis) (speed x y : ℤ)
      → Walked free axis speed x y (distance free axis speed x y)
  -- No other number of units is.
  pub only : (free : ℤ → ℤ → Bool) (axis : Axis) (speed x y : ℤ) (units : ℕ)
      → Walked free axis speed x y units → units ≡ distance free axis speed x y

-- 'One step' of one carrier, whatever places are free.
pub record Step : Type 0 where
  -- Sound: 'free, speeds within 200 either way, lever 0 to 9'.
  pub rule : (free : ℤ → ℤ → Bool) (carrier : Carrier) → (sound_carrier free carrier ≡ true)
      ↔ ((free carrier.x carrier.y ≡ true)
      × (nat_abs carrier.u ≤ 200)
      × (nat_abs carrier.v ≤ 200)
      × FromTo 0 9 carrier.lever)
  -- A carrier at rest where it is free is sound.
  pub rest : (free : ℤ → ℤ → Bool) (x y : ℤ) → free x y ≡ true
      → sound_carrier free (at_rest x y) ≡ true
  -- A sound carrier stays sound: free, speeds within 200 either way, lever 0 to 9.
  pub stays : (free : ℤ → ℤ → Bool) (held : Option ℕ) (carrier : Carrier) → LeverFits held
      → sound_carrier free carrier ≡ true → sound_carrier free (step free held carrier) ≡ true
  -- Which places are free is all that a step asks of the yard.
  pub same : (free other : ℤ → ℤ → Bool) → ((x y : ℤ) → free x y ≡ other x y)
      → (held : Option ℕ) (carrier : Carrier) → step free held carrier ≡ step other held carrier
