-- The statements of specs/Statements.antt, proved.
use Prim.Native.Nat.{ℕ, ◌+◌, ◌<◌, ◌≤◌}
use mathlib.Core.Path.{◌≡◌, sym, ap, subst, ◌∙◌}
use mathlib.Core.Logic.{◌↔◌, ◌≢◌}
use mathlib.Core.Bool.{Bool, true, false, true≢false}
use mathlib.Core.List.{List}
use Rattle.std.specs.Prelude.{Some}
use native.Mathlib.Omega.{arith}
use Rattle.basis.specs.Numbers.{row_count}
use Rattle.basis.specs.Order.{accepted}
use Rattle.record.specs.Bytes.{record_of}
use Rattle.record.specs.declared.bytes.Record.{Record}
use Rattle.record.proofs.OneRecord.{within_limits}
use Rattle.record.proofs.Climbs.{ascends}
use Rattle.record.proofs.Logs.{records_of_log, soundness_of_logs}
use Rattle.record.proofs.Members.{held_lever, lever_held, within_held}
use Rattle.record.proofs.Placing.{at_place}
use Rattle.record.proofs.Placing as placing
use Rattle.clock.proofs.Sound.{is_sound}
use Rattle.clock.proofs.Statements.{any_length}
use Rattle.course.specs.World.{World, Lawful}
use Rattle.course.specs.Session.{Session, opening, row_of}
use Rattle.course.specs.Calls.{Call, Outcome, delivery, read, taken, held, answer_to, run}
use Rattle.course.specs.Calls.{found_in, Holds}
use Rattle.course.specs.Statements.{Demand2, Replay, FromHistory, Same, Demand3, Reach}
use Rattle.course.specs.Statements.{ExactlyWhen, OnEveryWorld}
use Rattle.course.proofs.Levers.{earlier_lever}
use Rattle.course.proofs.Records.{same_at, same_log}
use Rattle.course.proofs.Rows.{after_agree, length_rows, row_saved, row_blank}
use Rattle.course.proofs.Calls.{held_at, answer_at, PlacedAs, told_at, is_held_at, leaves}
use Rattle.course.proofs.Calls.{is_unread, is_read, is_malformed, is_placed, took_says}
use Rattle.course.proofs.Kept.{Kept, kept, good_after, never_fault, take_row}
use Rattle.course.proofs.History.{clock_is, held_again}
use Rattle.course.proofs.Swap.{places_differ, swap}
use Rattle.course.proofs.Words.{flat_length, flat_row, flat_saved}
use Rattle.course.proofs.Words.{flatten_replicate, fits_after}

module _ {world : World} (law : Lawful world) where
  demand2 : {s : Session world} → Kept s → Demand2 s
  demand2 {s} k =
      let n = s.clock.steps in
      record {
        state = ap (λ made. made.state) k.made;
        rows = ap (λ made. made.rows) k.made;
        many = rw k.made (length_rows world n s.log);
        saved = λ t h j. rw k.made (row_saved world n t s.log h j);
        unused = λ i h j. rw k.made (row_blank world n i s.log h j);
        good = rw k.made (good_after law n k.within);
        ascends = ascends k.climbs;
        few = k.few;
        limits = λ r held. within_limits world.carriers r (within_held k.within held);
        clock = is_sound k.clock;
        steps = k.clock.steps;
        no_fault = never_fault law k;
      }

  replay : {s : Session world} → Kept s → Replay s
  replay k =
      record {
        sound = soundness_of_logs k.within (ascends k.climbs) k.few;
        state = rw (records_of_log k.within) (sym (demand2 k).state);
      }

  from_the_history : (first : ℕ) (calls : List Call) → FromHistory world first calls
  from_the_history first calls =
      let clock = clock_is (opening world first) calls in
      record {
        clock = clock;
        time = rw clock (any_length.opening world.length first _ law.positive);
      }

  converge : (s u : Session world) → Kept s → Kept u → s.clock.steps ≡ u.clock.steps
      → ((r : Record) → Holds s r ↔ Holds u r) → Same s u
  converge s u k j steps same =
      let log = same_log k.climbs j.climbs same in
      let made : s.made ≡ u.made = k.made ∙ rw (steps, log) (sym j.made) in
      record {
        state = ap (λ m. m.state) made;
        rows = ap (λ m. m.rows) made;
        log = log;
        demand2 = demand2 k;
      }

  demand3 : Demand3 world
  demand3 =
      record {
        converge = λ s u p q. converge s u (kept law p) (kept law q);
        again = λ s new bytes between e.
            let held = held_again s new bytes between e in
            (held, leaves (run new between) (delivery bytes) held);
        swap = λ s t u a b p. swap law s t u a b (kept law p);
        apart = places_differ;
        grouping = λ first calls others a b c d e.
            rw (clock_is (opening world first) calls, clock_is (opening world first) others)
            (any_length.grouping world.length first _ _ law.positive a b c d e);
      }

  reach_rows : (s new : Session world) (bytes : List ℕ) → Kept s
      → answer_to s (delivery bytes) ≡ accepted (taken new)
      → (t : ℕ) → t ≤ (record_of bytes).step → t < s.clock.steps → s.clock.steps ≤ t + row_count
      → row_of t new.made ≡ row_of t s.made
  reach_rows s new bytes k e t h made saved =
      let took = took_says s bytes e in
      let before : t ≤ took.this.step = rw took.here h in
      subst (λ u. row_of t u.made ≡ row_of t s.made) took.leaves
      (take_row law k took.limits took.takes t before made saved)

  reach : Reach world
  reach =
      record {
        state = λ s u p q n same.
            let below = same_at (kept law p).climbs (kept law q).climbs in
            after_agree world n (record { below = λ t h. below t (λ r e. same r (omega arith)) });
        rows = λ s new bytes p. reach_rows s new bytes (kept law p);
        later = λ n log.
            after_agree world n
            (record { below = λ t h carrier. earlier_lever t carrier n log h });
      }

  abbrev is_held : Outcome world → Bool
  is_held held = true
  is_held (taken new) = false
  is_held (read new) = false

  -- HELD is not TAKEN.
  unlike : {new : Session world} → ◌≢◌ {A = Outcome world} held (taken new)
  unlike e = true≢false (ap is_held e)

  same : {s : Session world} → Kept s → (r : Record) → (answer_at s r ≡ accepted held) ↔ Holds s r
  same {s} k r = (
    λ e. lever_held s.log (by_held (told_at s r e)),
    λ held. is_held_at s r (held_lever k.climbs held),
  )
    where
      by_held : PlacedAs s r (accepted held) → held_at s r ≡ Some r.lever
      by_held (placing.same h) = h

  numbers_exactly : {s : Session world} → Kept s → ExactlyWhen s
  numbers_exactly {s} k =
      record {
        unread = λ t number. is_unread s t;
        reads = λ t given. is_read s t;
        malformed = λ bytes number. is_malformed s bytes;
        at_place = λ bytes r e. rw (is_placed s bytes e) (at_place r (found_in s r) _ _ unlike);
        same = λ bytes r e. rw (is_placed s bytes e) (same k r);
        refusal = λ call number. leaves s call;
      }

pub course : OnEveryWorld
course =
    record {
      demand2 = λ world law s p. demand2 law (kept law p);
      replay = λ world law s p. replay law (kept law p);
      demand3 = λ world law. demand3 law;
      from_history = λ world law. from_the_history law;
      reach = λ world law. reach law;
      exactly_when = λ world law s p. numbers_exactly law (kept law p);
      fits = λ words law sized s p.
          rw (kept law p).made (fits_after sized s.clock.steps s.log);
      flat_rows = λ words made fits.
          record {
            long = flat_length fits;
            row = flat_row fits;
            saved = flat_saved fits;
          };
      opened = λ words first. flatten_replicate words.width row_count words.zero;
    }
