-- The table of specs/Lettered.antt, computed on the definitions.
use mathlib.Core.Path.{refl}
use Rattle.basis.specs.Order.{answer}
use Rattle.record.specs.Bytes.{record_of, bytes_of, well_formed, limits_order, read_order}
use Rattle.record.specs.Bytes.{write_order}
use Rattle.clock.specs.Clock.{due, ticked, sound_clock}
use Rattle.clock.specs.Reading.{clock_order}
use Rattle.yard.specs.Ranges.{every}
use Rattle.yard.specs.Free.{wall, share, covers, no_wall, free}
use Rattle.yard.specs.Levers.{push_of, cut_speed, brake, new_speed}
use Rattle.yard.specs.Slide.{toward, clear_on, walk, distance, slide}
use Rattle.yard.specs.Step.{step}
use Rattle.demands.specs.Lettered.{Lettered}

pub lettered : Lettered
unfolding answer clock_order sound_clock due ticked every wall share covers no_wall free push_of
    cut_speed brake new_speed toward clear_on walk distance slide step record_of bytes_of well_formed
    limits_order read_order write_order
lettered =
    record {
      a = refl;
      b = refl;
      c = refl;
      d = refl;
      e = refl;
      f = refl;
      g = (refl, refl);
      h = refl;
      i = refl;
      j = refl;
      k = refl;
      l = (refl, refl, refl);
    }
