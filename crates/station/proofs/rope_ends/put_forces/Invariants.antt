-- The forces put in, and those from `i` on, are all of them; the kinds hold exactly
-- where those from `i` on do.
use Prim.Native.Nat.{◌*◌}
use mathlib.Core.Path.{◌≡◌}
use mathlib.Core.List.{◌++◌}
use lib.ListN.{length, take, drop}
use Rattle.station.specs.Ropes.{forces_of, kinds_hold}
use Rattle.station.proofs.rope_ends.put_forces.Given as goal

abbrev pub invariant-loop-i : goal.invariant-loop-i
invariant-loop-i l = record {
  room : length l.forces ≡ length l.kinds;
  known : kinds_hold l.kinds ≡ kinds_hold (drop l.i l.kinds);
  put : take l.i l.forces ++ forces_of (drop l.i l.kinds) (drop (2 * l.i) l.numbers)
      ≡ forces_of l.kinds l.numbers;
}
