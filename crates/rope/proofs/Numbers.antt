-- The source's numbers as f64.
use mathlib.Core.Path.{◌≡◌, refl}
use lib.Ieee.{Float, binary64, of_bits, round, add, mul}
use Rattle.rope.specs.Forces.{plus_zero}
use Rattle.rope.specs.declared.Point.{Point}
use Rattle.rope.specs.Step.{over, speed_by, moved_by}

-- 0.0
pub zero_bits : of_bits binary64 0 ≡ plus_zero
unfolding of_bits
zero_bits = refl

-- 0.02
abbrev tick : Float
tick = of_bits binary64 4581421828931458171

tick_bits : tick ≡ over 2 100
unfolding of_bits round
tick_bits = refl

-- The operations of a move, with 0.02 by its bits.
pub operations : (point : Point) (force : Float)
    → ◌≡◌ {A = Point}
    (record {
      place =
          add binary64 point.place
          (mul binary64 (add binary64 point.speed (mul binary64 force tick)) tick);
      speed = add binary64 point.speed (mul binary64 force tick);
    })
    (moved_by point force)
unfolding moved_by speed_by
operations point force = rw tick_bits
