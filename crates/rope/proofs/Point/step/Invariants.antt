-- The forces are finite exactly where those to come are, and their sum is the one so far with those
-- added.
use mathlib.Core.Path.{◌≡◌}
use lib.ListN.{drop}
use Rattle.rope.specs.Forces.{sum_of, sum_from, finite_forces}
use Rattle.rope.proofs.Point.step.Given as goal

abbrev pub invariant-loop-force : goal.invariant-loop-force
invariant-loop-force l =
    record {
      finite : finite_forces l.forces ≡ finite_forces (drop l.force-index l.forces);
      sum : sum_of l.self l.forces ≡ sum_from l.self l.sum (drop l.force-index l.forces);
    }
