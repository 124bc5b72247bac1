-- Document 01, '*Sound* means', in its words; the clock's share is in `sound_clock`, the log's in
-- `sound_buffer`, each carrier's in `sound_state`.
use Rattle.std.specs.Prelude.{ℕ, ◌*◌, Bool, ◌&&◌, eqb, length}
use Rattle.basis.specs.Numbers.{step_length, row_count}
use Rattle.record.specs.Buffer.{buffer_size, sound_buffer}
use Rattle.clock.specs.Clock.{sound_clock}
use Rattle.yard.specs.declared.world.Yard.{Yard}
use Rattle.yard.specs.Rule9.{ranges_hold, cells_hold, sizes_hold}
use Rattle.fleet.specs.State.{carrier_words, sound_state}
use Rattle.session.specs.declared.Session.{Session}
use Rattle.session.specs.Lent.{Lent, world_in}

-- Rule 10, 'exactly W·H cell bytes, 4·B world words, 5·B state words': the lengths of replay.
unfoldable pub world_room : Yard → ℕ → ℕ → ℕ → Bool
world_room yard cells boxes state =
    eqb cells (yard.w * yard.h)
    && eqb boxes (4 * yard.b)
    && eqb state (carrier_words * yard.b)

-- Rule 10 whole: also '320·B row words, 16,384 log bytes'.
unfoldable pub room : Yard → Lent → Bool
room yard l =
    world_room yard (length l.cells) (length l.boxes) (length l.state)
    && eqb (length l.rows) (row_count * (carrier_words * yard.b))
    && eqb (length l.log) buffer_size

-- 'ranges and lengths as at opening; cells and sizes valid; steps, remainder and held count within
-- their limits; the time equation holds; the log as described above, by rule 13 with this session's
-- B; each carrier of the current state free, speeds within 200 either way, lever 0 to 9'
unfoldable pub sound : Session → Lent → Bool
sound session l =
    ranges_hold session.yard
    && room session.yard l
    && cells_hold l.cells
    && sizes_hold session.yard l.boxes
    && sound_clock step_length session.clock
    && sound_buffer session.yard.b session.held l.log
    && sound_state (world_in session l) l.state
