-- The examples of specs/Examples.antt, by computation.
use mathlib.Core.Path.{refl}
use native.Mathlib.Omega.{arith}
use lib.Dec.{lit≤}
use Rattle.basis.specs.Order.{answer}
use Rattle.clock.specs.Clock.{due, ticked, sound_clock}
use Rattle.clock.specs.Reading.{clock_order}
use Rattle.clock.specs.Examples.{GroupingExample, LongestGapExample}
use Rattle.clock.specs.History.{after_readings, accepted_of, NoLongGap}

pub grouping_example : GroupingExample
unfolding answer clock_order sound_clock due ticked after_readings accepted_of NoLongGap
grouping_example = (
  record { accepted = refl; short = (lit≤ tt, (lit≤ tt, (lit≤ tt, tt))); clock = refl },
  record { accepted = refl; short = (lit≤ tt, tt); clock = refl },
)

pub longest_gap_example : LongestGapExample
unfolding NoLongGap
longest_gap_example = ((lit≤ tt, tt), λ (h, t). omega (arith, h))
