-- Laws of calls: each answer with what its tests said, exactly when, and what a call leaves.
use Prim.Native.Nat.{ℕ}
use mathlib.Core.Path.{◌≡◌, refl, sym, ap, ◌∙◌}
use mathlib.Core.Bool.{true}
use mathlib.Core.List.{List}
use Rattle.std.specs.Prelude.{Option, Some}
use Rattle.basis.specs.Order.{Answer, refused, accepted, answer}
use Rattle.basis.proofs.Order.{gives, apart, stops, goes_on}
use Rattle.record.specs.Bytes.{record_of, read_order}
use Rattle.record.specs.Buffer.{lever_at}
use Rattle.record.specs.declared.bytes.Record.{Record}
use Rattle.record.proofs.OneRecord.{Within, reads}
use Rattle.record.proofs.Placing.{ByRow, Placed, same, other, late, full, broken, takes}
use Rattle.record.proofs.Placing.{told, is_held, is_taken}
use Rattle.clock.specs.Reading.{clock_order}
use Rattle.clock.specs.declared.Given.{Given}
use Rattle.course.specs.World.{World}
use Rattle.course.specs.Session.{Session}
use Rattle.course.specs.Calls.{Call, reading, delivery, Outcome, read, taken, held}
use Rattle.course.specs.Calls.{read_on, take_in, found_in, place_order, order_of}
use Rattle.course.specs.Calls.{answer_to, left, next}

module _ {world : World} (s : Session world) where
  -- The lever held at a record's place, and the answer by the place.
  abbrev pub held_at : Record → Option ℕ
  held_at r = lever_at r.step r.carrier s.log

  abbrev pub answer_at : Record → Answer (Outcome world)
  answer_at r = answer (place_order s r)

  module _ (r : Record) where
    -- What the tests said where the answer is TAKEN.
    abbrev pub Takes : Type 0
    Takes = ByRow r (found_in s r) true

    -- An answer with what its tests said.
    abbrev pub PlacedAs : Answer (Outcome world) → Type 0
    PlacedAs = Placed r (found_in s r) {A = Outcome world} held (taken (take_in s r))

    pub told_at : {a : Answer (Outcome world)} → answer_at r ≡ a → PlacedAs a
    told_at e = told r (found_in s r) _ _ e

    pub is_held_at : held_at r ≡ Some r.lever → answer_at r ≡ accepted held
    is_held_at h = is_held r (found_in s r) _ _ h

    pub is_taken_at : Takes → answer_at r ≡ accepted (taken (take_in s r))
    is_taken_at k = is_taken r (found_in s r) _ _ k

    pub tells_taken : (new : Session world) → answer_at r ≡ accepted (taken new)
        → Takes × (take_in s r ≡ new)
    tells_taken new e = go (told_at e)
      where
        go : {new : Session world} → PlacedAs (accepted (taken new)) → Takes × (take_in s r ≡ new)
        go (takes k) = (k, refl)

  -- What an answer leaves.
  pub leaves : (call : Call) {a : Answer (Outcome world)} → answer_to s call ≡ a
      → next s call ≡ left s a
  unfolding next
  leaves call e = ap (left s) e

  -- A reading is answered as the clock answers.
  abbrev pub by_clock : ℕ → Answer Given
  by_clock t = answer (clock_order world.length s.clock t)

  pub is_unread : (t : ℕ) {number : ℕ} → by_clock t ≡ refused number
      → answer_to s (reading t) ≡ refused number
  unfolding order_of
  is_unread t e = stops _ _ e

  pub is_read : (t : ℕ) {given : Given} → by_clock t ≡ accepted given
      → answer_to s (reading t) ≡ accepted (read (read_on s given))
  unfolding order_of
  is_read t e = goes_on _ _ e ∙ gives _

  abbrev pub read_left : Answer Given → Session world
  read_left (accepted given) = read_on s given
  read_left (refused number) = s

  pub read_leaves : (t : ℕ) → next s (reading t) ≡ read_left (by_clock t)
  read_leaves t = go (by_clock t) refl
    where
      go : (a : Answer Given) → by_clock t ≡ a → next s (reading t) ≡ read_left a
      go (accepted given) e = leaves (reading t) (is_read t e)
      go (refused number) e = leaves (reading t) (is_unread t e)

  -- A delivery is answered by its bytes, then by its record's place.
  module _ (bytes : List ℕ) where
    abbrev pub by_bytes : Answer Record
    by_bytes = answer (read_order world.carriers bytes)

    pub is_malformed : {number : ℕ} → by_bytes ≡ refused number
        → answer_to s (delivery bytes) ≡ refused number
    unfolding order_of
    is_malformed e = stops _ _ e

    pub is_placed : {r : Record} → by_bytes ≡ accepted r → answer_to s (delivery bytes) ≡ answer_at r
    unfolding order_of
    is_placed e = goes_on _ _ e

    -- A fact of the session that taking a record keeps is one of what a delivery leaves.
    pub take_keeps : (P : Session world → Type 0) → P s
        → ((r : Record) → Within world.carriers r → Takes r → P (take_in s r))
        → P (next s (delivery bytes))
    unfolding next
    take_keeps P here on = go by_bytes refl
      where
        by : {r : Record} {a : Answer (Outcome world)} → Within world.carriers r → PlacedAs r a
            → P (left s a)
        by w (same h) = here
        by w (other h) = here
        by w (late h) = here
        by w (full h) = here
        by w (broken h) = here
        by {r = r} w (takes k) = on r w k

        go : (a : Answer Record) → by_bytes ≡ a → P (left s (answer_to s (delivery bytes)))
        go (refused number) e = rw (is_malformed e) here
        go (accepted r) e =
            rw (is_placed e) (by (reads world.carriers bytes r e).limits (told_at r refl))

    -- What TAKEN says: the record in the bytes, what the tests said, and what is left.
    pub record Took (new : Session world) : Type 0 where
      pub this : Record
      pub reads : by_bytes ≡ accepted this
      pub here : this ≡ record_of bytes
      pub limits : Within world.carriers this
      pub takes : Takes this
      pub leaves : take_in s this ≡ new

    pub took_says : {new : Session world} → answer_to s (delivery bytes) ≡ accepted (taken new)
        → Took new
    took_says {new} e = go by_bytes refl
      where
        go : (a : Answer Record) → by_bytes ≡ a → Took new
        go (refused number) q = apart (sym (is_malformed q) ∙ e)
        go (accepted r) q =
            let found = reads world.carriers bytes r q in
            let w = tells_taken r new (sym (is_placed q) ∙ e) in
            record {
              this = r;
              reads = q;
              here = found.here;
              limits = found.limits;
              takes = w.0;
              leaves = w.1;
            }
