-- The functions of the C face: the orders of documents 01 and 02, and the lengths that the face
-- adds to them. Each is read as an order of `session` or `record` is, from the top down:
-- `reading_face` is 14 for a session that isn't nine words, and then 14, 11, 12 of the session in
-- them. `words` is the lent session, `out` a lent slice for what is given.
use Rattle.std.specs.Prelude.{ℕ, ◌+◌, cond, List, [], ◌∷◌, eqb, Float, ℤ, pos, get_or, length}
use Rattle.basis.specs.Numbers.{WORLD, ROOM, FAULT, most_carriers}
use Rattle.basis.specs.Order.{Order, check, give, and_then}
use Rattle.record.specs.Bytes.{bytes_of, read_order, write_order}
use Rattle.record.specs.Log.{sound_log}
use Rattle.record.specs.Part.{part_start, part_length}
use Rattle.record.specs.declared.bytes.Record.{Record}
use Rattle.merge.specs.Calls.{carriers_hold, merge_order}
use Rattle.load.specs.Step.{step_order}
use Rattle.load.specs.declared.Load.{Load}
use Rattle.yard.specs.Rule9.{ranges_hold}
use Rattle.yard.specs.declared.world.Yard.{Yard}
use Rattle.session.specs.Calls.{Delivery, open_order, reading_order, deliver_order, digest_order}
use Rattle.session.specs.Calls.{shown_order}
use Rattle.session.specs.Lent.{Lent, Made}
use Rattle.session.specs.declared.Session.{Session}
use Rattle.station.specs.Words.{session_of, nine}

-- W, H and B.
abbrev pub yard_of : ℕ → ℕ → ℕ → Yard
yard_of w h b = record { w = w; h = h; b = b }

-- `wuthracomb_log_sound`: 1 or 0.
abbrev pub log_sound : List ℕ → ℕ
log_sound log = cond (sound_log most_carriers log) 1 0

-- `wuthracomb_step_records`: the start and the end of the part, in bytes, into two words.
unfoldable pub step_records_face : List ℕ → ℕ → List ℕ → Order (List ℕ)
step_records_face log step out =
    check (eqb (length out) 2) ROOM
    (give (part_start step log ∷ (part_start step log + part_length step log) ∷ []))

-- `wuthracomb_read_record`: the record's three numbers, into three words.
unfoldable pub read_record_face : List ℕ → List ℕ → Order (List ℕ)
read_record_face bytes out =
    and_then (read_order most_carriers bytes)
    (λ r. check (eqb (length out) 3) ROOM
    (give (r.step ∷ r.carrier ∷ r.lever ∷ [])))

-- `wuthracomb_write_record`: the eight bytes of the record.
unfoldable pub write_record_face : ℕ → ℕ → ℕ → List ℕ → Order (List ℕ)
write_record_face step carrier lever out =
    and_then (write_order step carrier lever)
    (λ r. check (eqb (length out) 8) ROOM
    (give (bytes_of r)))

-- `wuthracomb_merge`: the count's length among the lengths; B's range stands before them.
unfoldable pub merge_face : ℕ → List ℕ → List ℕ → List ℕ → List ℕ → Order (List Record)
merge_face b one two out count =
    check (carriers_hold b) WORLD
    (check (eqb (length count) 1) ROOM
    (merge_order b (length out) one two))

-- The load in two words, its offset and its speed.
abbrev pub load_of : List ℤ → Load
load_of words = record { x = get_or words 0 (pos 0); v = get_or words 1 (pos 0) }

-- `wuthracomb_load_step`: the load after the step, into the same two words.
unfoldable pub load_step_face : ℕ → List ℤ → Order (List ℤ)
load_step_face stiffness load =
    check (eqb (length load) 2) ROOM
    (and_then (step_order stiffness (load_of load))
    (λ after. give (after.x ∷ after.v ∷ [])))

-- `wuthracomb_open`: the session's length among the other lengths; the ranges stand before both.
unfoldable pub open_face : Yard → ℕ → Lent → List ℕ → Order (Made Session)
open_face yard reading l words =
    check (ranges_hold yard) WORLD
    (check (nine words) ROOM
    (open_order yard reading l))

-- `wuthracomb_reading`: 14 for a session that isn't nine words.
unfoldable pub reading_face : ℕ → Lent → List ℕ → Order (Made Session)
reading_face reading l words =
    check (nine words) FAULT
    (reading_order (session_of words) l reading)

-- `wuthracomb_deliver`: in the same way.
unfoldable pub deliver_face : List ℕ → Lent → List ℕ → Order (Made Delivery)
deliver_face bytes l words =
    check (nine words) FAULT
    (deliver_order (session_of words) l bytes)

-- A call that shows something of a session in a slice of so many: first, 14 for another length.
unfoldable pub shows : {A B : Type 0} → ℕ → List B → List ℕ → Order A → (A → List B)
    → Order (List B)
shows count out words order parts =
    check (eqb (length out) count) FAULT
    (check (nine words) FAULT
    (and_then order (λ a. give (parts a))))

-- `wuthracomb_digest`: the digest, into one word.
unfoldable pub digest_face : Lent → List ℕ → List ℕ → Order (List ℕ)
digest_face l words out =
    shows 1 out words (digest_order (session_of words) l) (λ value. value ∷ [])

-- `wuthracomb_shown`: the shown place, x and y, into two f64.
unfoldable pub shown_face : ℕ → Lent → List ℕ → List Float → Order (List Float)
shown_face carrier l words out =
    shows 2 out words (shown_order (session_of words) l carrier)
    (λ place. place.x ∷ place.y ∷ [])
