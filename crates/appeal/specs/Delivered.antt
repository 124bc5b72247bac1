-- What was delivered to a session as in demand 3, and a session that ends as replay of a log.
use Rattle.std.specs.Prelude.{ℕ, ◌≡◌, cond, List, [], ◌∷◌, ℤ, length}
use Rattle.basis.specs.Order.{answer, accepted, is_accepted}
use Rattle.record.specs.Bytes.{record_of}
use Rattle.record.specs.declared.bytes.Record.{Record}
use Rattle.fleet.specs.State.{World, state_words}
use Rattle.course.specs.Calls.{Call, reading, delivery}
use Rattle.session.specs.Calls.{replay_order}
use Rattle.demands.specs.Handed.{Handed, delivery_answer, next, steps_made}

-- The records that these calls deliver, given h first, without those that are refused: each is
-- answered 0, TAKEN, or 1, HELD.
unfoldable pub delivered_by : World → Handed → List Call → List Record
delivered_by world h [] = []
delivered_by world h (reading t ∷ calls) = delivered_by world (next world h (reading t)) calls
delivered_by world h (delivery bytes ∷ calls) =
    let later : List Record = delivered_by world (next world h (delivery bytes)) calls in
    cond (is_accepted (delivery_answer world h bytes)) (record_of bytes ∷ later) later

-- The session ends as replay of this log, on its world, to its number of steps, whatever the state
-- buffer held.
abbrev pub EndsAsReplay : World → Handed → List ℕ → Type 0
EndsAsReplay world h log =
    (state : List ℤ) → length state ≡ state_words world
    → answer (replay_order world.yard (steps_made h) world.cells world.boxes state log)
    ≡ accepted h.state
