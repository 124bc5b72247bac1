-- What is claimed of a step of a rope end. proofs/Statements.antt proves each record whole.
-- Floats are equal, `≡`, bit for bit: the sign of a zero counts. All patterns of a NaN are one
-- `nan`, which no step gives. `fits binary64 x` says that x is an f64.
use Rattle.std.specs.Prelude.{ℕ, ◌≡◌, ◌↔◌, ◌≢◌, true, List, [], ◌∷◌, take, Result, Ok, Err, Float}
use Rattle.std.specs.Float.{binary64}
use Rattle.std.specs.Float.Ieee.{of_bits, to_bits, fits, neg, eq}
use Rattle.basis.specs.Order.{Determines}
use Rattle.basis.specs.declared.Refusal.{Refusal}
use Rattle.basis.specs.declared.Refusal.TheVariants as why
use Rattle.rope.specs.declared.Point.{Point}
use Rattle.rope.specs.declared.Force.{Force}
use Rattle.rope.specs.declared.Force.TheVariants.{Pull, Spring, Drag}
use Rattle.rope.specs.Forces.{plus_zero, minus_zero}
use Rattle.rope.specs.Step.{over, moved_under}
use Rattle.rope.specs.Facts.{Rule18}
use Rattle.rope.specs.Says.{StepCountedSays, StepSays}

-- 'any two outcomes allowed by it coincide', for the contract of each public entry.
pub record Determined : Type 0 where
  -- `Point::step`
  pub step : (point : Point) (forces : List Force) → Determines (StepSays point forces)
  -- `Point::step_counted`
  pub counted : (point : Point) (forces : List Force) (count : ℕ)
      → Determines (StepCountedSays point forces count)

-- What a step gives, exactly when.
pub record StepNumbers (point : Point) (forces : List Force) (count : ℕ)
    (out : Result Point Refusal) : Type 0 where
  -- 18: 'More than eight forces, a number .. that isn't finite, or a result that isn't finite'
  pub rope : (out ≡ Err why.Rope) ↔ Rule18 point forces count
  -- Else the point is moved: 'The result is fixed bit for bit'.
  pub moved : (out ≡ Ok (moved_under point (take count forces)))
      ↔ (Rule18 point forces count → ⊥)

-- A step with no forces, of a point whose speed is an f64.
pub record NoForces (point : Point) (next : Point) : Type 0 where
  -- 'with no forces the speed keeps its numeric value': the two are equal in IEEE 754,
  pub value : eq next.speed point.speed ≡ true
  -- and bit for bit, unless the speed is -0.0;
  pub same : point.speed ≢ minus_zero → next.speed ≡ point.speed
  -- then it becomes 0.0.
  pub zero : point.speed ≡ minus_zero → next.speed ≡ plus_zero

-- The step of a rope end, under the first `count` forces: `Point::step` counts each.
pub record RopeEnds : Type 0 where
  pub numbers : (point : Point) (forces : List Force) (count : ℕ) (out : Result Point Refusal)
      → StepCountedSays point forces count out → StepNumbers point forces count out
  -- Whatever bits the speed has, it is an f64, as `no_forces` asks.
  pub f64 : (bits : ℕ) → fits binary64 (of_bits binary64 bits) ≡ true
  pub no_forces : (point : Point) (forces : List Force) (next : Point)
      → StepCountedSays point forces 0 (Ok next) → fits binary64 point.speed ≡ true
      → NoForces point next
  -- What lies past the count plays no part.
  pub counted : (point : Point) (forces others : List Force) (count : ℕ)
      (out : Result Point Refusal)
      → take count forces ≡ take count others
      → StepCountedSays point forces count out → StepCountedSays point others count out

-- A point by its place and its speed.
abbrev pub point_at : Float → Float → Point
point_at place speed = record { place = place; speed = speed }

-- The largest f64.
abbrev pub largest : Float
largest = of_bits binary64 0x7fef_ffff_ffff_ffff

-- Steps worked out, each of the contract: what it is given, and what it gives.
pub record Examples : Type 0 where
  -- A pull of 50 on a point at rest at 0: speed 1, place 0.02.
  pub pull : StepSays (point_at plus_zero plus_zero) (Pull (over 50 1) ∷ [])
      (Ok (point_at (over 2 100) (over 1 1)))
  -- A spring of stiffness 2 with rest 3 on a point at rest at 1: speed 0.08, place 1.0016.
  pub spring : StepSays (point_at (over 1 1) plus_zero) (Spring (over 2 1) (over 3 1) ∷ [])
      (Ok (point_at (over 10016 10000) (over 8 100)))
  -- A drag of factor 0.5 on a point at 0 with speed 2: speed 1.98, place 0.0396.
  pub drag : StepSays (point_at plus_zero (over 2 1)) (Drag (over 5 10) ∷ [])
      (Ok (point_at (over 396 10000) (over 198 100)))
  -- No forces on a point at 1 with speed -0.0: speed 0.0.
  pub still : StepSays (point_at (over 1 1) minus_zero) []
      (Ok (point_at (over 1 1) plus_zero))
  -- A pull of -0.0 is added to 0.0, which is 0.0: so -0.0 becomes 0.0 here too.
  pub start : StepSays (point_at minus_zero minus_zero) (Pull minus_zero ∷ [])
      (Ok (point_at plus_zero plus_zero))
  -- The largest f64 and its opposite cancel; the third force lies past the count.
  pub in_order : StepCountedSays (point_at plus_zero plus_zero)
      (Pull largest ∷ Pull (neg largest) ∷ Pull largest ∷ []) 2
      (Ok (point_at plus_zero plus_zero))
  -- In this order, all three counted, the sum passes the largest f64 on its way.
  pub overflow : StepSays (point_at plus_zero plus_zero)
      (Pull largest ∷ Pull largest ∷ Pull (neg largest) ∷ []) (Err why.Rope)
  -- A spring of stiffness 0: rest minus place is an infinity, times 0 a NaN.
  pub infinite_times_zero : StepSays (point_at (neg largest) plus_zero)
      (Spring plus_zero largest ∷ []) (Err why.Rope)
  -- 0.02 by its bits.
  pub tick : to_bits binary64 (over 2 100) ≡ 0x3f94_7ae1_47ae_147b
