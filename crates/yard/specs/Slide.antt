-- Document 01, parts 3 and 4 of 'One step': the move along one axis.
-- `free` says of every place whether the carrier is free there.
use Rattle.std.specs.Prelude.{ℕ, zero, suc, ◌+◌, Bool, cond, ltb, ℤ, pos, negsuc, nat_abs, ◌+ℤ◌, ◌-ℤ◌}
use Rattle.yard.specs.declared.levers.Axis.{Axis}
use Rattle.yard.specs.declared.levers.Axis.TheVariants.{X, Y}
use Rattle.yard.specs.declared.slide.Moved.{Moved}
use Rattle.yard.specs.Levers.{along}

-- 'in the direction of u': so many units on from a place.
unfoldable pub toward : ℤ → ℤ → ℕ → ℤ
toward (pos speed) from units = from +ℤ pos units
toward (negsuc speed) from units = from -ℤ pos units

-- The place so many units on along the axis is free.
unfoldable pub clear_on : (ℤ → ℤ → Bool) → Axis → ℤ → ℤ → ℤ → ℕ → Bool
clear_on free X speed x y units = free (toward speed x units) y
clear_on free Y speed x y units = free x (toward speed y units)

-- 'unit by unit .., stopping before the first place that isn't free': k are moved, n may follow.
-- Where 1 and 2 units on are clear and 3 isn't, `walk clear 0 5` goes from 0 on to 1 and to 2: 2.
unfoldable pub walk : (ℕ → Bool) → ℕ → ℕ → ℕ
walk clear k zero = k
walk clear k (suc n) = cond (clear (k + 1)) (walk clear (k + 1) n) k

-- 'up to |u| units': the units moved.
unfoldable pub distance : (ℤ → ℤ → Bool) → Axis → ℤ → ℤ → ℤ → ℕ
distance free axis speed x y = walk (clear_on free axis speed x y) 0 (nat_abs speed)

-- The new place on the axis; 'If fewer than |u| units were moved, u becomes 0.'
unfoldable pub slide : (ℤ → ℤ → Bool) → Axis → ℤ → ℤ → ℤ → Moved
slide free axis speed x y =
    let units : ℕ = distance free axis speed x y in
    record {
      at = toward speed (along axis x y) units;
      speed = cond (ltb units (nat_abs speed)) (pos 0) speed;
    }
