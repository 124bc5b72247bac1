-- The statement of specs/Statements.antt, proved.
use Prim.Native.Nat.{ℕ, ◌*◌}
use mathlib.Core.Path.{◌≡◌, sym, ap, subst, ◌∙◌}
use mathlib.Core.Logic.Iff
use mathlib.Core.Logic.{◌↔◌, inr, ⊎_elim}
use mathlib.Core.List.Memᴰ
use mathlib.Core.List.{List, Memᴰ}
use lib.ListN.{length, take}
use Rattle.std.specs.Prelude.{Result, Ok}
use Rattle.basis.specs.Filled.{Filled, filled}
use Rattle.basis.specs.Order.{accepted}
use Rattle.basis.specs.declared.Refusal.{Refusal}
use Rattle.record.specs.Log.{records, log_of}
use Rattle.record.specs.declared.bytes.Record.{Record}
use Rattle.record.proofs.Buffers.{buffer_front}
use Rattle.merge.specs.Calls.{merge_leaves}
use Rattle.merge.proofs.Alike.{one_told}
use Rattle.merge.proofs.Orders.{said}
use Rattle.fleet.specs.State.{World}
use Rattle.course.specs.Calls.{Call, session_after}
use Rattle.course.specs.Session.{Session, opening}
use Rattle.course.proofs.Kept.{kept_opening}
use Rattle.demands.specs.Handed.{Handed, session_in, Reached, held_by, held_part}
use Rattle.demands.proofs.Demand2.{demand2}
use Rattle.demands.proofs.Model.{model, lawful}
use Rattle.demands.proofs.Sessions.{opened_words, modelled}
use Rattle.demands.proofs.Ties.{same_records}
use Rattle.appeal.specs.Delivered.{delivered_by, EndsAsReplay}
use Rattle.appeal.specs.Statements.{Appeal}
use Rattle.appeal.proofs.Held.{both_iff, held_after, ends, merged_as}

-- Of a session as in demand 3: the model's records, what was delivered, and its log.
module _ {world : World} {first : ℕ} {calls : List Call} {h : Handed}
    (reached : Reached world first calls h) where
  abbrev model_of : Session (model world)
  model_of = session_after (model world) first calls

  delivered : (r : Record)
      → Memᴰ r model_of.log ↔ Memᴰ r (delivered_by world reached.opening calls)
  delivered r =
      let m = modelled reached in
      let start = kept_opening (lawful world m.opens) first in
      rw (opened_words reached.opened) at
      (Iff.trans (held_after world m.opens (opening (model world) first) start calls r)
      (⊎_elim (λ n. absurd (Memᴰ.not-nil n)) (λ n. n), inr))

  held_is : held_by h ≡ model_of.log
  held_is =
      let m = modelled reached in
      ap held_by (sym m.words) ∙ same_records world m.opens model_of m.kept

  part_is : held_part h ≡ log_of model_of.log
  part_is = ap held_part (sym (modelled reached).words) ∙ buffer_front model_of.log

pub appeal : (world : World) → Appeal world
appeal world =
    record {
      holds = λ first calls h reached r. rw (held_is reached) (delivered reached r);
      ends = λ first calls h one two before count after reached b c says.
          let m = modelled reached in
          subst
          (λ x.
          ((r : Record) → Memᴰ r (held_by x) ↔ Memᴰ r (records count after))
          → EndsAsReplay world x (take (8 * count) after))
          m.words
          (ends world m.opens (model_of reached) m.kept one two before count after b c says);
      stations = λ first second third calls others both j k h one two all same before out long says.
          let m = modelled all in
          let left : out ≡ filled (Ok (session_in h).held) h.log =
          one_told out _
          (says
          ∙ rw (part_is one, part_is two)
          (subst
          (λ x.
          merge_leaves before (said world.yard.b (length before) (log_of (model_of one).log)
          (log_of (model_of two).log))
          ≡ filled (accepted (session_in x).held) x.log)
          m.words
          (merged_as world m.opens (model_of one) (model_of two) (model_of all)
          (modelled one).kept (modelled two).kept m.kept
          (λ r.
          Iff.trans (delivered all r)
          (Iff.trans (same r)
          (both_iff (Iff.symm (delivered one r)) (Iff.symm (delivered two r)))))
          before long))) in (
            left,
            subst (λ x. EndsAsReplay world h (take (8 * (session_in h).held) x))
                (ap (λ (x : Filled (Result ℕ Refusal) ℕ). x.out) (sym left))
                (subst (λ x. EndsAsReplay world x (held_part x)) m.words
                (demand2 world m.opens (model_of all) m.kept).replay),
          );
    }
