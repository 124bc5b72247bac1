-- The words of a session of the model: what the calls of `session` leave of them are the words of
-- what the model leaves.
use Prim.Native.Nat.{ℕ, zero, suc, ◌+◌, ◌*◌, ◌-◌, ◌%◌, ◌≤◌}
use mathlib.Core.Path.{◌≡◌, refl, sym, ap, ◌∙◌}
use mathlib.Core.Bool.{Bool, true, false, cond}
use mathlib.Core.List.{List, flatten}
use native.Mathlib.Numerals.{add-one}
use native.Mathlib.Omega.{arith}
use borrow.Author.Tests.{eq-eqb}
use lib.Dec.{ltb}
use lib.ListN.{length, drop, length-drop}
use lib.Seq.{length-take-le}
use Rattle.basis.specs.Order.{Answer, refused, accepted, give, answer}
use Rattle.basis.proofs.Order.{passes, apart, mapped, then_alike}
use Rattle.record.specs.Bytes.{read_order}
use Rattle.record.specs.Buffer.{buffer_of, put_in}
use Rattle.record.specs.Place.{by_place}
use Rattle.record.specs.declared.bytes.Record.{Record}
use Rattle.record.proofs.Placing.{place_alike}
use Rattle.record.proofs.Climbs.{ascends}
use Rattle.record.proofs.Insertion.{length_put_in, length_buffer}
use Rattle.record.proofs.Buffers.{buffer_sound, buffer_records}
use Rattle.clock.specs.declared.Given.{Given}
use Rattle.clock.proofs.Sound.{is_sound}
use Rattle.fleet.specs.State.{World, state_words}
use Rattle.fleet.specs.Step.{step_at}
use Rattle.fleet.specs.Run.{Course, course_of, run_saving, row_of, saved, go_back as backWords}
use Rattle.fleet.proofs.SavedRows.{row_end}
use Rattle.course.specs.Session.{Session, Made, steps, with_log, go_back}
use Rattle.course.specs.Session.{row_of as modelRow}
use Rattle.course.specs.Calls.{Outcome, read, taken, held, read_on, take_in, found_in, place_order}
use Rattle.course.specs.Calls.{order_of, reading, delivery, answer_to}
use Rattle.course.specs.Words.{Fits}
use Rattle.course.proofs.Kept.{Kept, good_after}
use Rattle.course.proofs.Words.{fits_after, fits_steps, flat_length, flat_row, flat_saved}
use Rattle.session.specs.Lent.{held_in}
use Rattle.session.specs.Lent as Lent
use Rattle.session.specs.Sound.{world_room, room, sound}
use Rattle.session.specs.Calls.{Delivery, read_on as readWords, take_in as takeWords}
use Rattle.session.specs.Calls.{found_in as foundWords, unchanged}
use Rattle.session.specs.Calls.{reading_order, deliver_order, taken as tookWords}
use Rattle.session.proofs.Deliveries.{place_order as placeWords}
use Rattle.demands.specs.Handed.{Handed, lent_in}
use Rattle.demands.proofs.Model.{Opens, words, model, fitting, fitting_fits, sized, lawful}

-- The words that a session of the model has.
abbrev pub handed : (world : World) → Session (model world) → Handed
handed world s =
    record {
      result = record { yard = world.yard; clock = s.clock; held = length s.log };
      state = s.made.state;
      rows = flatten s.made.rows;
      log = buffer_of s.log;
    }

-- Steps with saving, of the words of what was made, are the steps of the model.
module _ (world : World) (opens : Opens world) (log : List Record) where
  abbrev course_words : Made (model world) → Course
  course_words made = course_of made.state (flatten made.rows)

  pub same_steps : (t k : ℕ) (made : Made (model world)) → Fits (words world) made
      → run_saving world log t k (course_words made) ≡ course_words (steps log t k made)
  unfolding run_saving steps saved
  same_steps t zero made fits = refl
  same_steps t (suc k) made fits =
      let before = steps log t k made in
      let there = fits_steps (sized world opens) log t k fits in
      rw (same_steps t k made fits)
      (ap (λ rows. course_of (step_at world log (t + k) before.state) rows)
      (sym (flat_saved there log (t + k))))

module _ (world : World) (opens : Opens world) (s : Session (model world)) (k : Kept s) where
  pub fits : Fits (words world) s.made
  fits = rw k.made (fits_after (sized world opens) s.clock.steps s.log)

  -- The records in the log buffer are those of the model.
  pub same_records : held_in (handed world s).result (lent_in world (handed world s)) ≡ s.log
  same_records = buffer_records k.within k.few

  -- Row t mod 64, in the words.
  pub same_row : (t : ℕ)
      → row_of (state_words world) t (flatten s.made.rows) ≡ modelRow t s.made
  unfolding row_of
  same_row t = sym (flat_row fits t)

  pub row_long : (t : ℕ) → length (modelRow t s.made) ≡ state_words world
  row_long t =
      let start = t % 64 * state_words world in
      let flat = flatten s.made.rows in
      let long : state_words world ≤ length (drop start flat) =
      omega (arith, length-drop start flat, flat_length fits, row_end (state_words world) t) in
      rw (flat_row fits t) (length-take-le (state_words world) (drop start flat) long)

  -- Its words are sound.
  pub words_sound : sound (handed world s).result (lent_in world (handed world s)) ≡ true
  unfolding sound room world_room
  words_sound =
      let state = fitting_fits world s.made.state (good_state) in
      rw (
        opens.ranges,
        eq-eqb _ _ opens.laid,
        eq-eqb _ _ opens.room,
        eq-eqb _ _ fits.state,
        eq-eqb _ _ (flat_length fits),
        eq-eqb _ _ (length_buffer s.log k.few),
        opens.cells,
        opens.sizes,
        is_sound k.clock,
        buffer_sound k.within k.few (ascends k.climbs),
        state.sound,
      )
    where
      good_state : fitting world s.made.state ≡ true
      good_state = rw k.made (good_after (lawful world opens) s.clock.steps k.within)

-- A refusal stays one, and was one.
pub same_refusal : {A B : Type 0} (f : A → B) (a : Answer A) {n : ℕ} → mapped f a ≡ refused n
    → a ≡ refused n
same_refusal f (refused m) {n} e =
    let same : m ≡ n = cc in
    ap refused same
same_refusal f (accepted a) e = apart (sym e)

module _ (world : World) (opens : Opens world) (s : Session (model world)) (k : Kept s) where
  -- A reading in the words, and in the model.
  same_read : (given : Given)
      → readWords (handed world s).result (lent_in world (handed world s)) given
      ≡ handed world (read_on s given)
  unfolding readWords
  same_read given =
      let n = s.clock.steps in
      rw (
        same_records world opens s k,
        same_steps world opens s.log n given.due s.made (fits world opens s k),
      )

  -- Going back in the words, and in the model.
  same_back : (log : List Record) (t : ℕ)
      → backWords world log t s.clock.steps (course_words world opens log s.made)
      ≡ course_words world opens log (go_back log t s.clock.steps s.made)
  same_back log t =
      let made : Made (model world) =
      record { state = modelRow t s.made; rows = s.made.rows } in
      let f = fits world opens s k in
      let fitting : Fits (words world) made =
      record { state = row_long world opens s k t; rows = f.rows; many = f.many } in
      rw (same_row world opens s k t)
      (same_steps world opens log t (s.clock.steps - t) made fitting)

  -- What a delivery that is taken, or held, hands on.
  abbrev took_as : Handed → Lent.Made Delivery
  took_as h =
      record { result = tookWords h.result; state = h.state; rows = h.rows; log = h.log }

  -- The same words, from the state and rows as the fleet leaves them.
  abbrev took_from : List Record → Course → Lent.Made Delivery
  took_from log course =
      record {
        result =
            tookWords (record { yard = world.yard; clock = s.clock; held = length s.log + 1 });
        state = course.state;
        rows = course.rows;
        log = buffer_of log;
      }

  -- A record taken in, in the words and in the model.
  same_take : (r : Record)
      → takeWords (handed world s).result (lent_in world (handed world s)) r
      ≡ took_as (handed world (take_in s r))
  unfolding takeWords with_log
  same_take r =
      rw (same_records world opens s k, same_back log r.step)
      (go (ltb r.step s.clock.steps) (go_back log r.step s.clock.steps s.made))
    where
      log : List Record
      log = put_in r s.log

      go : (t : Bool) (back : Made (model world))
          → took_from log
          (cond t (course_words world opens log back) (course_words world opens log s.made))
          ≡ took_as
          (handed world (record { clock = s.clock; log = log; made = cond t back s.made }))
      go true back = rw (length_put_in r s.log, add-one (length s.log))
      go false back = rw (length_put_in r s.log, add-one (length s.log))

  -- What decides of a record, in the words and in the model.
  same_found : (r : Record)
      → foundWords (handed world s).result (lent_in world (handed world s)) r ≡ found_in s r
  same_found r =
      let t = r.step in
      rw (
        same_records world opens s k,
        same_row world opens s k t,
        eq-eqb _ _ (row_long world opens s k t),
      )

  -- What the model gives, as the words of a reading's answer and of a delivery's. (Each map has
  -- cases that its call doesn't give.)
  abbrev pub as_read : Outcome (model world) → Handed
  as_read (read new) = handed world new
  as_read (taken new) = handed world new
  as_read held = handed world s

  abbrev pub as_delivered : Outcome (model world) → Lent.Made Delivery
  as_delivered (read new) = took_as (handed world new)
  as_delivered (taken new) = took_as (handed world new)
  as_delivered held = unchanged (handed world s).result (lent_in world (handed world s))

  pub same_reading : (t : ℕ)
      → answer (reading_order (handed world s).result (lent_in world (handed world s)) t)
      ≡ mapped as_read (answer_to s (reading t))
  unfolding reading_order order_of answer
  same_reading t =
      passes _ _ (words_sound world opens s k)
      ∙ then_alike as_read _ (λ given. give (read (read_on s given))) _
      (λ given. ap accepted (same_read given))

  same_place : (r : Record)
      → answer (placeWords (handed world s).result (lent_in world (handed world s)) r)
      ≡ mapped as_delivered (answer (place_order s r))
  same_place r =
      ap
      (λ found. answer (by_place r found (as_delivered held)
      (takeWords (handed world s).result (lent_in world (handed world s)) r)))
      (same_found r)
      ∙ ap (λ took. answer (by_place r (found_in s r) (as_delivered held) took)) (same_take r)
      ∙ place_alike as_delivered r (found_in s r) held (taken (take_in s r))

  pub same_delivery : (bytes : List ℕ)
      → answer (deliver_order (handed world s).result (lent_in world (handed world s)) bytes)
      ≡ mapped as_delivered (answer_to s (delivery bytes))
  unfolding deliver_order order_of
  same_delivery bytes =
      passes _ _ (words_sound world opens s k)
      ∙ then_alike as_delivered (read_order world.yard.b bytes) (λ r. place_order s r) _ same_place
