-- Every session as in demand 3 has the words of a session of the model.
use Prim.Native.Nat.{ℕ}
use mathlib.Core.Path.{◌≡◌, refl, sym, ap, ◌∙◌}
use mathlib.Core.List.{List, [], ◌∷◌}
use lib.IntN.{pos}
use Rattle.basis.specs.Numbers.{row_count}
use Rattle.basis.specs.Order.{Answer, refused, accepted}
use Rattle.basis.proofs.Order.{mapped}
use Rattle.record.specs.Buffer.{buffer_of}
use Rattle.fleet.specs.State.{World, state_words}
use Rattle.course.specs.Session.{Session, opening}
use Rattle.course.specs.Calls.{Call, reading, delivery, Outcome, read, taken, held as outcomeHeld}
use Rattle.course.specs.Calls.{answer_to, left, next as modelNext, run as modelRun, session_after}
use Rattle.course.specs.Calls.{Reached as ModelReached}
use Rattle.course.proofs.Kept.{Kept, kept_opening, kept_next, kept_run}
use Rattle.course.proofs.Words.{flatten_replicate}
use Rattle.session.specs.Lent.{Lent, lent}
use Rattle.session.proofs.Facts.{room_fits}
use Rattle.session.proofs.Openings.{opened_says}
use Rattle.demands.specs.Handed.{Handed, hands_on, next, after_calls}
use Rattle.demands.specs.Handed.{Opened, Reached}
use Rattle.demands.proofs.Model.{Opens, model, lawful}
use Rattle.demands.proofs.Ties.{handed, as_read, as_delivered}
use Rattle.demands.proofs.Ties.{same_reading, same_delivery}

module _ (world : World) (opens : Opens world) where
  -- What a call hands on has the words of what it leaves in the model.
  pub same_next : (s : Session (model world)) → Kept s → (call : Call)
      → next world (handed world s) call ≡ handed world (modelNext s call)
  unfolding next modelNext
  same_next s k (reading t) =
      rw (same_reading world opens s k t) (go (answer_to s (reading t)))
    where
      go : (a : Answer (Outcome (model world)))
          → hands_on (λ session. session) (handed world s) (mapped (as_read world opens s k) a)
          ≡ handed world (left s a)
      go (accepted (read new)) = refl
      go (accepted (taken new)) = refl
      go (accepted outcomeHeld) = refl
      go (refused number) = refl
  same_next s k (delivery bytes) =
      rw (same_delivery world opens s k bytes) (go (answer_to s (delivery bytes)))
    where
      go : (a : Answer (Outcome (model world)))
          → hands_on (λ d. d.session) (handed world s) (mapped (as_delivered world opens s k) a)
          ≡ handed world (left s a)
      go (accepted (read new)) = refl
      go (accepted (taken new)) = refl
      go (accepted outcomeHeld) = refl
      go (refused number) = refl

  pub same_run : (s : Session (model world)) → Kept s → (calls : List Call)
      → after_calls world (handed world s) calls ≡ handed world (modelRun s calls)
  unfolding after_calls modelRun
  same_run s k [] = refl
  same_run s k (call ∷ calls) =
      rw (same_next s k call)
      (same_run (modelNext s call) (kept_next (lawful world opens) call k) calls)

-- An opening that is accepted says that its world opens, and leaves the words of the model's.
module _ {world : World} {first : ℕ} {h : Handed} (o : Opened world first h) where
  abbrev pub lent_then : Lent
  lent_then = lent world.cells world.boxes o.state o.rows o.log

  pub opens : Opens world
  opens =
      let passes = (opened_says _ first lent_then o.accepts).0 in
      let room = (room_fits world.yard lent_then).0 passes.long in
      record {
        ranges = passes.ranges;
        laid = room.lengths.cell_bytes;
        room = room.lengths.world_words;
        cells = passes.cell;
        sizes = passes.sizes;
        starts = passes.starts;
      }

  pub opened_words : handed world (opening (model world) first) ≡ h
  unfolding buffer_of
  opened_words =
      rw (flatten_replicate (state_words world) row_count (pos 0))
      (opened_says _ first lent_then o.accepts).1

-- The session of the model that has the words of this one.
pub record Modelled (world : World) (first : ℕ) (calls : List Call) (h : Handed) : Type 0 where
  pub opens : Opens world
  pub reached : ModelReached (session_after (model world) first calls)
  pub kept : Kept (session_after (model world) first calls)
  pub words : handed world (session_after (model world) first calls) ≡ h

pub modelled : {world : World} {first : ℕ} {calls : List Call} {h : Handed}
    → Reached world first calls h → Modelled world first calls h
modelled {world} {first} {calls} r =
    let law = opens r.opened in
    let start = kept_opening (lawful world law) first in
    record {
      opens = law;
      reached = record { first = first; calls = calls; leads = refl };
      kept = kept_run (lawful world law) calls start;
      words =
          sym (same_run world law (opening (model world) first) start calls)
          ∙ ap (λ h. after_calls world h calls) (opened_words r.opened)
          ∙ r.leads;
    }
