-- Document 02, §8: one step of a point, and what is refused.
use Rattle.std.specs.Prelude.{ℕ, Bool, false, ◌&&◌, List, leb, take, Float}
use Rattle.std.specs.Float.{binary64, float_is_finite}
use Rattle.std.specs.Float.Ieee.{round, add, mul}
use Rattle.basis.specs.Numbers.{ROPE}
use Rattle.basis.specs.Order.{Order, check, give}
use Rattle.rope.specs.declared.Point.{Point}
use Rattle.rope.specs.declared.Force.{Force}
use Rattle.rope.specs.Forces.{sum_of, finite_forces}

-- The f64 nearest to a / b.
abbrev pub over : ℕ → ℕ → Float
over a b = round binary64 false a b

-- 'then speed becomes speed + force·0.02,
unfoldable pub speed_by : Point → Float → Float
speed_by point force = add binary64 point.speed (mul binary64 force (over 2 100))

-- then place becomes place + speed·0.02 with the new speed'.
unfoldable pub moved_by : Point → Float → Point
moved_by point force =
    record {
      place = add binary64 point.place (mul binary64 (speed_by point force) (over 2 100));
      speed = speed_by point force;
    }

-- A point's numbers are finite.
unfoldable pub finite_point : Point → Bool
finite_point point = float_is_finite point.place && float_is_finite point.speed

-- The point after 'the whole sum and move'.
abbrev pub moved_under : Point → List Force → Point
moved_under point forces = moved_by point (sum_of point forces)

-- 'up to eight forces'
abbrev pub most_forces : ℕ
most_forces = 8

-- 'More than eight forces, a number of the point or of a counted force that isn't finite, or a
-- result that isn't finite (after the whole sum and move) is refused as 18'.
unfoldable pub rope_order : Point → List Force → ℕ → Order Point
rope_order point forces count =
    check (leb count most_forces) ROPE
    (check (finite_point point) ROPE
    (check (finite_forces (take count forces)) ROPE
    (check (finite_point (moved_under point (take count forces))) ROPE
    (give (moved_under point (take count forces))))))
