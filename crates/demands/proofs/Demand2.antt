-- Demand 2, of the words of a session of the model.
use Prim.Native.Nat.{ℕ, zero, suc, ◌+◌, ◌*◌, ◌-◌, ◌%◌, ◌<◌, ◌≤◌}
use mathlib.Core.Path.{◌≡◌, refl, sym, ap, ◌∙◌}
use mathlib.Core.Bool.{Bool, true, false, cond}
use mathlib.Core.List.{List, flatten}
use native.Mathlib.Nat.{zero-add}
use native.Mathlib.Omega.{arith}
use borrow.Author.Tests.{eq-eqb, eqb-true, eqb-false, lt-ltb, le-leb}
use lib.Dec.{eqb}
use lib.IntN.{ℤ, pos}
use lib.ListN.{length, take, replicate}
use Rattle.basis.specs.Numbers.{step_length}
use Rattle.basis.specs.Order.{accepted, answer, and_then}
use Rattle.basis.proofs.Order.{passes, gives}
use Rattle.record.specs.Buffer.{buffer_of}
use Rattle.record.specs.declared.bytes.Record.{Record}
use Rattle.record.proofs.Climbs.{ascends}
use Rattle.record.proofs.Logs.{records_of_log, soundness_of_logs}
use Rattle.record.proofs.Buffers.{buffer_front}
use Rattle.digest.specs.Fnv.{digest_of}
use Rattle.digest.specs.Words.{state_bytes}
use Rattle.shown.specs.Answer.{shown_place}
use Rattle.yard.specs.declared.carrier.Carrier.{Carrier}
use Rattle.fleet.specs.State.{World, state_words, carrier, sound_state}
use Rattle.fleet.specs.Step.{step_at}
use Rattle.fleet.specs.Run.{moved, run, row_of}
use Rattle.course.specs.World.{after}
use Rattle.course.specs.Session.{Session}
use Rattle.course.proofs.Rows.{row_saved, row_blank}
use Rattle.course.specs.Calls.{reading, delivery}
use Rattle.course.proofs.Kept.{Kept, good_after, never_fault}
use Rattle.course.proofs.Words.{flat_length}
use Rattle.session.specs.Sound.{world_room}
use Rattle.session.specs.Calls.{world_order}
use Rattle.session.specs.Calls.{replay_order, digest_order, shown_order, shown_of, previous}
use Rattle.demands.specs.Handed.{lent_in}
use Rattle.demands.specs.Statements.{Demand2}
use Rattle.demands.proofs.Model.{Opens, model, lawful, fitting_fits}
use Rattle.demands.proofs.Ties.{handed, fits, same_records, same_row, words_sound}
use Rattle.demands.proofs.Ties.{as_read, as_delivered, same_reading, same_delivery}
use Rattle.demands.proofs.Ties.{same_refusal}

-- The model's state after n steps is the start moved n times.
pub moved_after : (world : World) (n : ℕ) (log : List Record)
    → after (model world) n log ≡ moved world n log
unfolding after run
moved_after world zero log = refl
moved_after world (suc n) log =
    ap (step_at world log n) (moved_after world n log)
    ∙ ap (λ t. step_at world log t (moved world n log)) (sym (zero-add n))

module _ (world : World) (opens : Opens world) (s : Session (model world)) (k : Kept s) where
  state_is : s.made.state ≡ moved world s.clock.steps s.log
  state_is = ap (λ made. made.state) k.made ∙ moved_after world s.clock.steps s.log

  replays : (state : List ℤ) → length state ≡ state_words world
      → answer (replay_order world.yard s.clock.steps world.cells world.boxes state
      (take (8 * length s.log) (buffer_of s.log))) ≡ accepted s.made.state
  unfolding replay_order world_order world_room and_then answer
  replays state long =
      rw (
        buffer_front s.log,
        opens.ranges,
        eq-eqb _ _ opens.laid,
        eq-eqb _ _ opens.room,
        eq-eqb _ _ long,
        opens.cells,
        opens.sizes,
        opens.starts,
        soundness_of_logs k.within (ascends k.climbs) k.few,
        le-leb _ _ k.clock.steps,
        records_of_log k.within,
        state_is,
      )

  row_is : (t : ℕ) → t < s.clock.steps → s.clock.steps ≤ t + 64
      → row_of (state_words world) t (flatten s.made.rows) ≡ moved world t s.log
  row_is t made saved =
      same_row world opens s k t
      ∙ rw k.made (row_saved (model world) s.clock.steps t s.log made saved)
      ∙ moved_after world t s.log

  row_empty : (t : ℕ) → s.clock.steps ≤ t → t < 64
      → row_of (state_words world) t (flatten s.made.rows) ≡ replicate (state_words world) (pos 0)
  row_empty t unused below =
      let here : t % 64 ≡ t = omega arith in
      same_row world opens s k t
      ∙ rw (k.made, here) (row_blank (model world) s.clock.steps t s.log unused below)

  pub digests : answer (digest_order (handed world s).result (lent_in world (handed world s)))
      ≡ accepted (digest_of (state_bytes s.clock.steps s.made.state))
  unfolding digest_order
  digests = passes _ _ (words_sound world opens s k) ∙ gives _

  -- Every state of demand 2 keeps the state rule.
  moved_sound : (m : ℕ) → sound_state world (moved world m s.log) ≡ true
  moved_sound m =
      (fitting_fits world (moved world m s.log)
      (rw (moved_after world m s.log) at (good_after (lawful world opens) m k.within))).sound

  -- The state before the last step.
  before_last : previous (handed world s).result (lent_in world (handed world s))
      ≡ moved world (s.clock.steps - 1) s.log
  before_last = go (eqb s.clock.steps 0) refl
    where
      go : (t : Bool) → eqb s.clock.steps 0 ≡ t
          → cond t s.made.state
          (row_of (state_words world) (s.clock.steps - 1) (flatten s.made.rows))
          ≡ moved world (s.clock.steps - 1) s.log
      go true e =
          let none : s.clock.steps ≡ s.clock.steps - 1 =
          omega (arith, eqb-true s.clock.steps 0 e) in
          state_is ∙ ap (λ m. moved world m s.log) none
      go false e =
          let some = eqb-false s.clock.steps 0 e in
          row_is (s.clock.steps - 1) (omega (arith, some)) (omega (arith, some))

  shows : (i : ℕ) → i < world.yard.b
      → answer (shown_order (handed world s).result (lent_in world (handed world s)) i)
      ≡ accepted (let p : Carrier = carrier i (moved world (s.clock.steps - 1) s.log) in
      let c : Carrier = carrier i (moved world s.clock.steps s.log) in
      shown_place step_length p.x p.y c.x c.y s.clock.remainder)
  unfolding shown_order shown_of answer
  shows i below =
      rw (
        words_sound world opens s k,
        lt-ltb _ _ below,
        before_last,
        moved_sound (s.clock.steps - 1),
        state_is,
      )

  pub demand2 : Demand2 world (handed world s)
  demand2 =
      let log = same_records world opens s k in
      record {
        state = rw log state_is;
        replay = replays;
        rows = λ t made saved. rw log (row_is t made saved);
        unused = row_empty;
        long = flat_length (fits world opens s k);
        log = sym (ap buffer_of log);
        ascends = rw log (ascends k.climbs);
        few = k.few;
        digest = rw log (digests ∙ rw state_is);
        shown = λ i below. rw log (shows i below);
        sound = words_sound world opens s k;
        reads = λ t e.
            never_fault (lawful world opens) k (reading t)
            (same_refusal (as_read world opens s k) _ (sym (same_reading world opens s k t) ∙ e));
        delivers = λ bytes e.
            never_fault (lawful world opens) k (delivery bytes)
            (same_refusal (as_delivered world opens s k) _
            (sym (same_delivery world opens s k bytes) ∙ e));
      }
