-- What the ranges of a yard and rule 10's lengths say, as the facts that the calls' parts require.
use Prim.Native.Nat.{◌*◌, ◌≤◌}
use mathlib.Core.Path.{◌≡◌}
use mathlib.Core.Bool.{true}
use lib.ListN.{length}
use Rattle.record.specs.Buffer.{buffer_size}
use Rattle.yard.specs.declared.world.Yard.{Yard}
use Rattle.yard.specs.Boxes.{BoxesFit}
use Rattle.yard.specs.Rule9.{ranges_hold, sizes_hold}
use Rattle.yard.proofs.Fits.{ranges, cells_fit, boxes_fit}
use Rattle.fleet.specs.State.{world_of, carrier_words}
use Rattle.fleet.specs.Fits.{WorldFits}
use Rattle.session.specs.Lent.{Lent}
use Rattle.session.specs.Sound.{room}
use Rattle.session.proofs.Facts.{room_fits}

module _ (yard : Yard) (e : ranges_hold yard ≡ true) where
  pub width_most : yard.w ≤ 64
  width_most = ((ranges yard).0 e).w.1

  pub height_most : yard.h ≤ 64
  height_most = ((ranges yard).0 e).h.1

  pub carriers_most : yard.b ≤ 32
  carriers_most = ((ranges yard).0 e).b.1

module _ (yard : Yard) (l : Lent) where
  pub cells_long : room yard l ≡ true → length l.cells ≡ yard.w * yard.h
  cells_long e = ((room_fits yard l).0 e).lengths.cell_bytes

  pub boxes_long : room yard l ≡ true → length l.boxes ≡ 4 * yard.b
  boxes_long e = ((room_fits yard l).0 e).lengths.world_words

  pub state_long : room yard l ≡ true → length l.state ≡ carrier_words * yard.b
  state_long e = ((room_fits yard l).0 e).lengths.state_words

  pub log_long : room yard l ≡ true → length l.log ≡ buffer_size
  log_long e = ((room_fits yard l).0 e).log_bytes

  pub boxes_fitting : ranges_hold yard ≡ true → room yard l ≡ true → BoxesFit yard l.boxes
  boxes_fitting r e = boxes_fit yard r l.boxes ((room_fits yard l).0 e).lengths.world_words

  pub world_fitting : ranges_hold yard ≡ true → room yard l ≡ true
      → sizes_hold yard l.boxes ≡ true
      → WorldFits (world_of yard l.cells l.boxes)
  world_fitting r e z =
      record {
        laid = cells_fit yard r l.cells ((room_fits yard l).0 e).lengths.cell_bytes;
        room = boxes_fitting r e;
        sizes = z;
      }

-- What the check of `Session::is_sound` is told.
pub ruleset lengths_say = (boxes_fitting, world_fitting, state_long, log_long)
