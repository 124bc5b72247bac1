-- What a sound session says, as the facts that the calls' parts require.
use Prim.Native.Nat.{◌*◌, ◌<◌, ◌≤◌}
use mathlib.Core.Path.{◌≡◌}
use mathlib.Core.Bool.{true, false}
use native.Mathlib.Omega.{arith}
use lib.ListN.{length, take}
use lib.Seq.{length-take-le}
use Rattle.basis.specs.Numbers.{step_length, most_records, most_steps}
use Rattle.basis.proofs.Tests.{and_left, and_right}
use Rattle.record.specs.Log.{records_of}
use Rattle.record.specs.Buffer.{sound_buffer}
use Rattle.record.proofs.Buffers.{Kept, kept, records_front}
use Rattle.clock.specs.Clock.{sound_clock}
use Rattle.clock.proofs.Sound.{sound_says}
use Rattle.yard.specs.Rule9.{ranges_hold, cells_hold, sizes_hold}
use Rattle.fleet.specs.State.{carrier_words, sound_state}
use Rattle.fleet.specs.Fits.{WorldFits, WholeLogFits, StateFits, RowsFit}
use Rattle.fleet.proofs.Starts.{log_fits as sound_log_fits}
use Rattle.session.specs.declared.Session.{Session}
use Rattle.session.specs.Lent.{Lent, world_in, held_in}
use Rattle.session.specs.Sound.{room, sound}
use Rattle.session.specs.Facts.{Room}
use Rattle.session.proofs.Facts.{room_fits}
use Rattle.session.proofs.Room.{world_fitting, carriers_most as yard_most}

-- The parts of '*Sound* means'.
pub record Good (session : Session) (l : Lent) : Type 0 where
  pub ranges : ranges_hold session.yard ≡ true
  pub room : room session.yard l ≡ true
  pub cells : cells_hold l.cells ≡ true
  pub sizes : sizes_hold session.yard l.boxes ≡ true
  pub clock : sound_clock step_length session.clock ≡ true
  pub buffer : Kept session.yard.b session.held l.log
  pub state : sound_state (world_in session l) l.state ≡ true

module _ (session : Session) (l : Lent) where
  pub good : sound session l ≡ true → Good session l
  unfolding sound
  good e =
      let g = and_left _ (sound_state (world_in session l) l.state) e in
      let f = and_left _ (sound_buffer session.yard.b session.held l.log) g in
      let d = and_left _ (sound_clock step_length session.clock) f in
      let c = and_left _ (sizes_hold session.yard l.boxes) d in
      let b = and_left _ (cells_hold l.cells) c in
      record {
        ranges = and_left (ranges_hold session.yard) (room session.yard l) b;
        room = and_right (ranges_hold session.yard) (room session.yard l) b;
        cells = and_right _ (cells_hold l.cells) c;
        sizes = and_right _ (sizes_hold session.yard l.boxes) d;
        clock = and_right _ (sound_clock step_length session.clock) f;
        buffer = kept _ _ _ (and_right _ (sound_buffer session.yard.b session.held l.log) g);
        state = and_right _ (sound_state (world_in session l) l.state) e;
      }

  -- A yard out of range makes it unsound, whatever else is lent.
  pub bad_ranges : ranges_hold session.yard ≡ false → sound session l ≡ false
  unfolding sound
  bad_ranges e = rw e

  module _ (ok : sound session l ≡ true) where
    lengths : Room session.yard l
    lengths = (room_fits session.yard l).0 (good ok).room

    pub steps_most : session.clock.steps ≤ most_steps
    steps_most = (sound_says (good ok).clock).steps

    pub remainder_most : session.clock.remainder < step_length
    remainder_most = (sound_says (good ok).clock).remainder

    pub carriers_most : session.yard.b ≤ 32
    carriers_most = yard_most session.yard (good ok).ranges

    pub state_long : length l.state ≡ carrier_words * session.yard.b
    state_long = lengths.lengths.state_words

    pub state_kept : sound_state (world_in session l) l.state ≡ true
    state_kept = (good ok).state

    pub held_most : session.held ≤ most_records
    held_most = (good ok).buffer.few

    pub clock_sound : sound_clock step_length session.clock ≡ true
    clock_sound = (good ok).clock

    pub world_fits : WorldFits (world_in session l)
    world_fits = let g = good ok in world_fitting session.yard l g.ranges g.room g.sizes

    pub state_fits : StateFits (world_in session l) l.state
    state_fits = record { room = lengths.lengths.state_words; sound = (good ok).state }

    pub rows_fit : RowsFit (world_in session l) l.rows
    rows_fit = lengths.row_words

    -- The held part of the log, and the records in it.
    pub held_fits : 8 * session.held ≤ length l.log
    held_fits = omega (arith, lengths.log_bytes, held_most)

    pub held_long : length (take (8 * session.held) l.log) ≡ 8 * session.held
    held_long = length-take-le (8 * session.held) l.log held_fits

    pub log_fits : WholeLogFits (world_in session l) (take (8 * session.held) l.log)
    log_fits =
        sound_log_fits (world_in session l) (take (8 * session.held) l.log) (good ok).buffer.log

    pub log_holds : records_of (take (8 * session.held) l.log) ≡ held_in session l
    log_holds = records_front session.held l.log held_fits
