-- Document 01, 'One step' of one carrier, and its state rule ('Sound').
-- `free` says of every place whether the carrier is free there.
use Rattle.std.specs.Prelude.{ℕ, ◌≤◌, Bool, ◌&&◌, Option, None, Some, ℤ, pos, nat_abs}
use Rattle.yard.specs.declared.levers.Axis.TheVariants.{X, Y}
use Rattle.yard.specs.declared.slide.Moved.{Moved}
use Rattle.yard.specs.declared.carrier.Carrier.{Carrier}
use Rattle.yard.specs.Ranges.{minus, between}
use Rattle.yard.specs.Levers.{new_speed}
use Rattle.yard.specs.Slide.{slide}

-- Part 1: 'If a record for (t, carrier) is held, the lever becomes that record's.'
abbrev pub lever_after : Option ℕ → ℤ → ℤ
lever_after None lever = lever
lever_after (Some moved) lever = pos moved

-- Parts 1 to 4: 'along x with the new u and the old y', 'along y .. with the new v and the new x'.
unfoldable pub step : (ℤ → ℤ → Bool) → Option ℕ → Carrier → Carrier
step free held carrier =
    let lever : ℤ = lever_after held carrier.lever in
    let u : ℤ = new_speed X (nat_abs lever) carrier.u in
    let v : ℤ = new_speed Y (nat_abs lever) carrier.v in
    let alongX : Moved = slide free X u carrier.x carrier.y in
    let alongY : Moved = slide free Y v alongX.at carrier.y in
    record {
      x = alongX.at;
      y = alongY.at;
      u = alongX.speed;
      v = alongY.speed;
      lever = lever;
    }

-- 'free, speeds within 200 either way, lever 0 to 9'
unfoldable pub sound_carrier : (ℤ → ℤ → Bool) → Carrier → Bool
sound_carrier free carrier =
    free carrier.x carrier.y
    && between (minus 200) carrier.u (pos 200)
    && between (minus 200) carrier.v (pos 200)
    && between (pos 0) carrier.lever (pos 9)

-- 'At the start u, v and lever are 0': a carrier at rest.
abbrev pub at_rest : ℤ → ℤ → Carrier
at_rest x y = record { x = x; y = y; u = pos 0; v = pos 0; lever = pos 0 }

-- Rule 4 has passed the record that is held: its lever is 0 to 9.
abbrev pub LeverFits : Option ℕ → Type 0
LeverFits None = Unit {0}
LeverFits (Some moved) = moved ≤ 9
