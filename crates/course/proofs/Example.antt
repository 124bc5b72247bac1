-- The example of specs/Example.antt, by computation.
use mathlib.Core.Path.{refl}
use native.Mathlib.Omega.{arith}
use Rattle.basis.specs.Order.{answer, and_then}
use Rattle.record.specs.Bytes.{record_of, bytes_of, well_formed, limits_order, read_order}
use Rattle.record.specs.Log.{precedes}
use Rattle.record.specs.Buffer.{lever_at, put_in}
use Rattle.clock.specs.Clock.{due, ticked, sound_clock}
use Rattle.clock.specs.Reading.{clock_order}
use Rattle.course.specs.World.{Lawful, after}
use Rattle.course.specs.Session.{steps, with_log}
use Rattle.course.specs.Calls.{order_of, next, run}
use Rattle.course.specs.Words.{Sized}
use Rattle.course.specs.Example.{counting, world, Example}

lawful : Lawful world
lawful =
    record {
      few = omega arith;
      positive = omega arith;
      start = refl;
      step = λ levers state most good. refl;
    }

sized : Sized counting
sized = record { start = refl; step = λ levers state e. refl }

pub example : Example
unfolding after answer and_then order_of next run steps with_log
    read_order limits_order well_formed record_of bytes_of precedes lever_at put_in
    clock_order sound_clock due ticked
example =
    record {
      lawful = lawful;
      sized = sized;
      steps = refl;
      step36 = refl;
      step35 = refl;
      same = refl;
      other = refl;
      before = refl;
      moved = refl;
      in_time = refl;
      demand2 = refl;
      two = refl;
      ahead = refl;
      malformed = refl;
      carrier = refl;
      backward = refl;
      refusal = refl;
      again = refl;
    }
