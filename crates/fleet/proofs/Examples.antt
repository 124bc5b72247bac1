-- The example of specs/Examples.antt, computed.
use mathlib.Core.Path.{refl}
use native.Mathlib.Omega.{arith}
use Rattle.basis.specs.Order.{answer}
use Rattle.record.specs.Bytes.{record_of, well_formed, limits_order, read_order}
use Rattle.record.specs.Log.{precedes}
use Rattle.yard.specs.Ranges.{between, every}
use Rattle.yard.specs.Boxes.{size_of}
use Rattle.yard.specs.Free.{wall, share, covers, no_wall, free}
use Rattle.yard.specs.Rule9.{size_holds, sizes_hold}
use Rattle.yard.specs.Step.{sound_carrier}
use Rattle.fleet.specs.State.{carrier, words_of, free_for, sound_state, start_to}
use Rattle.fleet.specs.Examples.{Practice}

pub examples : Practice
unfolding answer record_of well_formed limits_order read_order precedes between every size_of wall share
    covers no_wall free size_holds sizes_hold sound_carrier carrier words_of free_for sound_state start_to
examples =
    record {
      world =
          record {
            laid = record { w = omega arith; h = omega arith; room = refl };
            room = record { b = omega arith; room = refl };
            sizes = refl;
          };
      log = record { few = omega arith; room = omega arith; unrefused = refl; ascends = refl };
      start = record { room = refl; sound = refl };
    }
