-- The table of specs/Examples.antt, by computation.
use mathlib.Core.Path.{refl}
use lib.Dec.{lit≤}
use Rattle.basis.specs.Order.{answer}
use Rattle.load.specs.Step.{within, in_range, quotient, speed_after, moved, step_order}
use Rattle.load.specs.Energy.{none, then}
use Rattle.load.specs.Examples.{Examples}

pub examples : Examples
unfolding answer step_order within in_range quotient speed_after moved
examples =
    record {
      above = record { step = refl; rest = refl; first = refl; then = refl };
      below = record { step = refl; rest = refl; first = refl; then = refl };
      most = record { step = refl; rest = refl; first = refl; then = refl };
      brink = refl;
      soft = refl;
      stiff = refl;
      far = refl;
      fast = refl;
      farther = refl;
      faster = refl;
      run = then (then none refl (lit≤ tt) (lit≤ tt)) refl (lit≤ tt) (lit≤ tt);
    }
