-- Document 02, §8: what `wuthracomb_rope_step` answers and leaves, in plain facts.
use Rattle.std.specs.Prelude.{ℕ, ◌*◌, ◌<◌, ◌≡◌, ◌↔◌, ◌⊎◌, ◌≢◌, Float, length}
use mathlib.Core.List.{List, [], ◌∷◌, Memᴰ}
use Rattle.basis.specs.Filled.{Filled, filled}
use Rattle.rope.specs.Step.{moved_under}
use Rattle.rope.specs.Facts.{Rule18}
use Rattle.rope.specs.declared.Point.{Point}
use Rattle.station.specs.Ropes.{point_of, forces_of}
use Rattle.station.specs.Says.{RopeStepSays}
use Rattle.face.specs.Table.{Table, ◌when◌or◌, done, Gives}

-- `wuthracomb_rope_step`: the lengths, then 18.
abbrev pub rope_numbers : List ℕ → List Float → List Float → Table
rope_numbers kinds numbers point =
    10 when (length numbers ≢ 2 * length kinds) or
    10 when (length point ≢ 2) or
    -- A kind that is no pull, spring or drag.
    18 when ((kind : ℕ) × Memᴰ kind kinds × (2 < kind)) or
    -- 'More than eight forces, a number of the point or of a counted force that isn't finite, or a
    -- result that isn't finite'
    18 when Rule18 (point_of point) (forces_of kinds numbers) (length kinds) or
    done 255

-- The point in two f64, after 'the whole sum and move'.
abbrev pub point_after : List ℕ → List Float → List Float → List Float
point_after kinds numbers point =
    let next : Point = moved_under (point_of point) (forces_of kinds numbers) in
    next.place ∷ next.speed ∷ []

-- What the function answers and leaves, by its table.
pub record RopeStep (kinds : List ℕ) (numbers point : List Float) (out : Filled ℕ Float)
    : Type 0 where
  -- Each number, exactly when.
  pub exactly : (n : ℕ) → (out.answer ≡ n) ↔ Gives (rope_numbers kinds numbers point) n
  -- 'The result is fixed bit for bit'; or the number comes back 'with the point unchanged'.
  pub leaves : (out ≡ filled 255 (point_after kinds numbers point))
      ⊎ ((out.answer ≢ 255) × (out ≡ filled out.answer point))

-- Of whatever the contract allows.
pub record RopeEnds : Type 0 where
  pub step : (kinds : List ℕ) (numbers point : List Float) (out : Filled ℕ Float)
      → RopeStepSays kinds numbers point out → RopeStep kinds numbers point out
