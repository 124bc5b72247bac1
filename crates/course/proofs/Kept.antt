-- What every session as in demand 3 keeps, call by call, and that so no call is answered 14.
use Prim.Native.Nat.{ℕ, zero, suc, ◌+◌, ◌<◌, ◌≤◌}
use mathlib.Core.Path.{◌≡◌, refl, sym, ap, subst, ◌∙◌}
use mathlib.Core.Logic.{◌≢◌}
use mathlib.Core.Bool.{Bool, true, false, cond, ◌||◌}
use mathlib.Core.List.{List, [], ◌∷◌}
use native.Mathlib.Omega.{arith}
use lib.Dec.{ltb, leb}
use lib.ListN.{length}
use borrow.Author.Tests.{ltb-true, ltb-false, leb-false}
use Rattle.basis.specs.Numbers.{MALFORMED, CARRIER, LEVER, STEP, FAULT, most_records, row_count}
use Rattle.basis.specs.Order.{Answer, refused, accepted, check, give, answer, First, later}
use Rattle.basis.proofs.Order.{apart, exactly_number}
use Rattle.basis.proofs.Tests.{never}
use Rattle.record.specs.Bytes.{limits_order, read_order}
use Rattle.record.specs.Buffer.{put_in}
use Rattle.record.specs.declared.bytes.Record.{Record}
use Rattle.record.proofs.OneRecord.{Within}
use Rattle.record.proofs.Climbs.{Climbs, done}
use Rattle.record.proofs.Levers.{lever_at_by}
use Rattle.record.proofs.Members.{lever_held, within_held}
use Rattle.record.proofs.Logs.{AllWithin}
use Rattle.record.proofs.Logs.{done as None-more}
use Rattle.record.proofs.Insertion.{length_put_in, within_put_in, climbs_put_in}
use Rattle.record.specs.Place.{row_serves}
use Rattle.record.proofs.Placing.{broken}
use Rattle.clock.specs.declared.Given.{Given}
use Rattle.clock.proofs.Sound.{Sound, sound_says, is_sound}
use Rattle.clock.proofs.Ticks.{fresh_sound}
use Rattle.clock.proofs.Readings.{exactly_fault}
use Rattle.clock.proofs.Statements.{any_length}
use Rattle.course.specs.World.{World, Lawful, levers_of, after, rows_after}
use Rattle.course.specs.Session.{Session, Made, opening, row_of, go_back, with_log}
use Rattle.course.specs.Calls.{Call, reading, delivery, read_on, take_in, found_in}
use Rattle.course.specs.Calls.{answer_to, next, run, Reached}
use Rattle.course.proofs.Levers.{At, put_other}
use Rattle.course.proofs.Rows.{Agree, agree_below, made_after, after_agree, made_agree}
use Rattle.course.proofs.Rows.{row_saved, steps_on, back_is}
use Rattle.course.proofs.Calls.{Takes, PlacedAs, told_at, by_clock, is_unread, is_read}
use Rattle.course.proofs.Calls.{read_left, read_leaves, by_bytes, is_malformed, is_placed}
use Rattle.course.proofs.Calls.{take_keeps}

pub record Kept {world : World} (s : Session world) : Type 0 where
  pub made : s.made ≡ made_after world s.clock.steps s.log
  pub climbs : Climbs 0 s.log
  pub within : AllWithin world.carriers s.log
  pub few : length s.log ≤ most_records
  pub clock : Sound world.length s.clock

-- A record that is put in leaves what is held at the steps before its own.
agree_put : (r : Record) (l : List Record) → Agree r.step l (put_in r l)
agree_put r l =
    record { below = λ t h carrier. sym (put_other t carrier r l (elsewhere t carrier h)) }
  where
    elsewhere : (t carrier : ℕ) → t < r.step → At t carrier r → ⊥
    elsewhere t carrier h at = omega arith

-- Under records that agree below step t with its own, where row t is still saved.
pub given_log : {world : World} {s : Session world} (t : ℕ) (log : List Record) → Kept s
    → s.clock.steps ≤ t + row_count → Agree t s.log log
    → (with_log t log s).made ≡ made_after world s.clock.steps log
unfolding with_log
given_log {world} {s} t log k timely agree = rw k.made (go (ltb t n) refl)
  where
    n : ℕ
    n = s.clock.steps

    old : Made world
    old = made_after world n s.log

    go : (b : Bool) → ltb t n ≡ b → cond b (go_back log t n old) old ≡ made_after world n log
    go true e = back_is world t n (ltb-true t n e) timely agree
    go false e = made_agree world n (agree_below n (ltb-false t n e) agree)

-- Rules 2 to 5 give no 14.
read_no_fault : (carriers : ℕ) (bytes : List ℕ) → answer (read_order carriers bytes) ≢ refused FAULT
unfolding read_order limits_order
read_no_fault carriers bytes e = go ((exactly_number _ FAULT).0 e)
  where
    go : {a b c d : Bool} {r : Record}
        → First FAULT (check a MALFORMED (check b CARRIER (check c LEVER (check d STEP (give r)))))
        → ⊥
    go (later (later (later (later f)))) = elim f [ ]

module _ {world : World} (law : Lawful world) where
  pub kept_opening : (first : ℕ) → Kept (opening world first)
  unfolding after rows_after
  kept_opening first =
      record {
        made = refl;
        climbs = done;
        within = None-more;
        few = omega arith;
        clock = fresh_sound world.length first law.positive;
      }

  kept_read : {s : Session world} (t : ℕ) {given : Given} → Kept s → by_clock s t ≡ accepted given
      → Kept (read_on s given)
  kept_read {s} t {given} k e =
      let one = any_length.reading world.length s.clock t given e in
      record {
        made = rw (k.made, one.steps) (steps_on world s.log s.clock.steps given.due);
        climbs = k.climbs;
        within = k.within;
        few = k.few;
        clock = sound_says one.sound;
      }

  pub kept_take : {s : Session world} {r : Record} → Kept s → Within world.carriers r → Takes s r
      → Kept (take_in s r)
  unfolding with_log
  kept_take {s} {r} k limits takes =
      let byte : r.carrier < 256 = omega (arith, limits.carrier, law.few) in
      let free = sym (lever_at_by r.step r.carrier k.climbs byte) ∙ takes.free in
      record {
        made = given_log r.step (put_in r s.log) k takes.timely (agree_put r s.log);
        climbs = climbs_put_in r byte k.climbs (omega arith) free;
        within = within_put_in r k.within limits;
        few = omega (arith, length_put_in r s.log, takes.room);
        clock = k.clock;
      }

  pub kept_next : {s : Session world} (call : Call) → Kept s → Kept (next s call)
  kept_next {s} (reading t) k = rw (read_leaves s t) (go (by_clock s t) refl)
    where
      go : (a : Answer Given) → by_clock s t ≡ a → Kept (read_left s a)
      go (accepted given) e = kept_read t k e
      go (refused number) e = k
  kept_next {s} (delivery bytes) k = take_keeps s bytes Kept k (λ r. kept_take k)

  pub kept_run : {s : Session world} (calls : List Call) → Kept s → Kept (run s calls)
  unfolding run
  kept_run [] k = k
  kept_run {s} (call ∷ calls) k = kept_run {s = next s call} calls (kept_next call k)

  pub kept : {s : Session world} → Reached s → Kept s
  kept reached =
      subst Kept reached.leads (kept_run reached.calls (kept_opening reached.first))

  -- Every state of demand 2 is good, so the row to be brought back is.
  pub good_after : (n : ℕ) {log : List Record} → AllWithin world.carriers log
      → world.good (after world n log) ≡ true
  unfolding after
  good_after zero within = law.start
  good_after (suc n) {log} within =
      law.step (levers_of n log) (after world n log)
      (λ carrier lever e. (within_held within (lever_held log e)).lever)
      (good_after n within)

  pub row_good : {s : Session world} (r : Record) → Kept s → s.clock.steps ≤ r.step + row_count
      → row_serves r (found_in s r) ≡ true
  row_good {s} r k timely = go (leb n r.step) refl
    where
      n : ℕ
      n = s.clock.steps

      go : (b : Bool) → leb n r.step ≡ b
          → (b || world.good (row_of r.step s.made)) ≡ true
      go true e = refl
      go false e =
          let saved = row_saved world n r.step s.log (leb-false n r.step e) timely in
          rw (k.made, saved) (good_after r.step k.within)

  pub never_fault : {s : Session world} → Kept s → (call : Call) → answer_to s call ≢ refused FAULT
  never_fault {s} k (reading t) e = go (by_clock s t) refl
    where
      go : (a : Answer Given) → by_clock s t ≡ a → ⊥
      go (accepted given) q = apart (sym e ∙ is_read s t q)
      go (refused number) q =
          let same : number ≡ FAULT = cc (is_unread s t q) in
          let unsound = (exactly_fault world.length s.clock t).0 (q ∙ ap refused same) in
          never (is_sound k.clock) unsound
  never_fault {s} k (delivery bytes) e = go (by_bytes s bytes) refl
    where
      by_row : {r : Record} → PlacedAs s r (refused FAULT) → ⊥
      by_row {r} (broken w) = never (row_good r k w.timely) w.row

      go : (a : Answer Record) → by_bytes s bytes ≡ a → ⊥
      go (accepted r) q = by_row (told_at s r (sym (is_placed s bytes q) ∙ e))
      go (refused number) q =
          let same : number ≡ FAULT = cc (is_malformed s bytes q) in
          read_no_fault world.carriers bytes (q ∙ ap refused same)

  -- Taking a record changes no saved row of its step or earlier.
  pub take_row : {s : Session world} {r : Record} → Kept s → Within world.carriers r → Takes s r
      → (t : ℕ) → t ≤ r.step → t < s.clock.steps → s.clock.steps ≤ t + row_count
      → row_of t (take_in s r).made ≡ row_of t s.made
  unfolding with_log
  take_row {s} {r} k limits takes t h made saved =
      let n = s.clock.steps in
      rw ((kept_take k limits takes).made, k.made)
      (row_saved world n t (put_in r s.log) made saved
      ∙ sym (after_agree world t (agree_below t h (agree_put r s.log)))
      ∙ sym (row_saved world n t s.log made saved))
