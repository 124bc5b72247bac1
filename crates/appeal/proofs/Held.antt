-- What a session of the model holds after calls, and the merge of the logs of two sessions.
use Prim.Native.Nat.{ℕ, ◌*◌, ◌≤◌}
use mathlib.Core.Path.{◌≡◌, refl, sym, ap, ◌∙◌}
use mathlib.Core.Logic.Iff
use mathlib.Core.Logic.{◌↔◌, ◌⊎◌, inl, inr, ⊎_elim, ⊎_map}
use mathlib.Core.Bool.{Bool, true, false, cond}
use mathlib.Core.List.Memᴰ
use mathlib.Core.List.{List, [], ◌∷◌, Memᴰ}
use lib.ListN.{length, take}
use Rattle.std.specs.Prelude.{Ok}
use Rattle.basis.specs.Filled.{filled}
use Rattle.basis.specs.LittleEndian.{Bytes}
use Rattle.basis.specs.Numbers.{most_carriers}
use Rattle.basis.specs.Order.{Answer, refused, accepted, is_accepted}
use Rattle.basis.proofs.Order.{mapped}
use Rattle.basis.proofs.Tests.{never}
use Rattle.record.specs.Buffer.{buffer_size, buffer_of}
use Rattle.record.specs.Log.{records, records_of, log_of}
use Rattle.record.specs.declared.bytes.Record.{Record}
use Rattle.record.proofs.Buffers.{buffer_front}
use Rattle.record.proofs.Members.{held_lever}
use Rattle.record.proofs.Rules.{log_valid}
use Rattle.merge.specs.Calls.{merge_leaves}
use Rattle.merge.specs.Facts.{Mergeable}
use Rattle.merge.specs.Merge.{merge, both_of, agree}
use Rattle.merge.specs.Says.{MergeLogsSays}
use Rattle.merge.proofs.Alike.{its_fine, its_records, its_log}
use Rattle.merge.proofs.Fine.{Fine, fine_merge, logged, log_is_sound}
use Rattle.merge.proofs.Holds.{Differs, exactly, agree_not}
use Rattle.merge.proofs.Merges.{agree_said}
use Rattle.merge.proofs.Orders.{said}
use Rattle.merge.proofs.Ways.{is_merged}
use Rattle.fleet.specs.State.{World}
use Rattle.course.specs.Calls.{Call, reading, delivery, Outcome, answer_to}
use Rattle.course.specs.Calls.{next as modelNext, run as modelRun}
use Rattle.course.specs.Session.{Session}
use Rattle.course.proofs.Delivered.{read_log, delivery_adds}
use Rattle.course.proofs.Kept.{Kept, kept_next}
use Rattle.course.proofs.Records.{same_log}
use Rattle.session.proofs.Room.{carriers_most}
use Rattle.yard.proofs.Fits.{ranges}
use Rattle.demands.specs.Handed.{delivery_answer, held_by}
use Rattle.demands.proofs.Demand2.{demand2}
use Rattle.demands.proofs.Demand3.{answered}
use Rattle.demands.proofs.Model.{Opens, model, lawful}
use Rattle.demands.proofs.Sessions.{same_next}
use Rattle.demands.proofs.Ties.{handed, as_delivered, same_records}
use Rattle.appeal.specs.Delivered.{delivered_by, EndsAsReplay}

-- What is in a list, and what stands before it if a test holds.
module _ {x r : Record} {P : Type 0} {l : List Record} where
  added : (t : Bool) → ((P ⊎ ((t ≡ true) × (x ≡ r))) ⊎ Memᴰ x l)
      ↔ (P ⊎ Memᴰ x (cond t (r ∷ l) l))
  added true = (
    ⊎_elim (⊎_elim inl (λ h. inr (Memᴰ.head h.1))) (λ m. inr (Memᴰ.tail m)),
    ⊎_elim (λ p. inl (inl p))
        (λ m. ⊎_elim (λ e. inl (inr (refl, e))) inr (Memᴰ.cases_cons m)),
  )
  added false = (⊎_elim (⊎_elim inl (λ h. never h.0 refl)) inr, ⊎_elim (λ p. inl (inl p)) inr)

pub both_iff : {P Q R S : Type 0} → P ↔ Q → R ↔ S → (P ⊎ R) ↔ (Q ⊎ S)
both_iff p q = (⊎_map p.0 q.0, ⊎_map p.1 q.1)

module _ (world : World) (opens : Opens world) where
  -- A delivery is accepted in the words where it is in the model.
  same_accepted : (s : Session (model world)) → Kept s → (bytes : List ℕ)
      → is_accepted (delivery_answer world (handed world s) bytes)
      ≡ is_accepted (answer_to s (delivery bytes))
  same_accepted s k bytes =
      ap is_accepted (answered world opens s k bytes refl) ∙ go (answer_to s (delivery bytes))
    where
      go : (a : Answer (Outcome (model world)))
          → is_accepted (mapped (as_delivered world opens s k) a) ≡ is_accepted a
      go (accepted o) = refl
      go (refused number) = refl

  -- What is held after these calls: what was, and what they deliver.
  pub held_after : (s : Session (model world)) → Kept s → (calls : List Call) (x : Record)
      → Memᴰ x (modelRun s calls).log
      ↔ (Memᴰ x s.log ⊎ Memᴰ x (delivered_by world (handed world s) calls))
  unfolding modelRun delivered_by
  held_after s k [] x = (inl, ⊎_elim (λ m. m) (λ m. absurd (Memᴰ.not-nil m)))
  held_after s k (reading t ∷ calls) x =
      let then = modelNext s (reading t) in
      let later = held_after then (kept_next (lawful world opens) (reading t) k) calls x in
      let same : Memᴰ x then.log ↔ Memᴰ x s.log = rw (read_log s t) Iff.rfl in
      rw (same_next world opens s k (reading t)) (Iff.trans later (both_iff same Iff.rfl))
  held_after s k (delivery bytes ∷ calls) x =
      let then = modelNext s (delivery bytes) in
      let later = held_after then (kept_next (lawful world opens) (delivery bytes) k) calls x in
      rw (same_next world opens s k (delivery bytes), same_accepted s k bytes)
      (Iff.trans later
      (Iff.trans (both_iff (delivery_adds s bytes x) Iff.rfl)
      (added (is_accepted (answer_to s (delivery bytes))))))

  -- The records of a session, and its log.
  fine : (s : Session (model world)) → Kept s → Fine world.yard.b s.log
  fine s k = record { climbs = k.climbs; within = k.within }

  pub ends : (s : Session (model world)) → Kept s → (one two before : List ℕ) (count : ℕ)
      (after : List ℕ) → Bytes one → Bytes two
      → MergeLogsSays world.yard.b one two before (filled (Ok count) after)
      → ((r : Record) → Memᴰ r (held_by (handed world s)) ↔ Memᴰ r (records count after))
      → EndsAsReplay world (handed world s) (take (8 * count) after)
  ends s k one two before count after b c says same state long =
      let carriers = world.yard.b in
      let members : (r : Record) → Memᴰ r s.log ↔ Memᴰ r (both_of one two) =
      λ r.
      rw (same_records world opens s k, its_records carriers one two before count after says b c) at
      (same r) in
      let log : s.log ≡ both_of one two =
      same_log k.climbs (its_fine carriers one two before count after says b c).climbs
      members in
      let front : take (8 * length s.log) (buffer_of s.log) ≡ take (8 * count) after =
      buffer_front s.log
      ∙ ap log_of log
      ∙ sym (its_log carriers one two before count after says) in
      rw front at ((demand2 world opens s k).replay state long)

  -- The merge of the logs of two sessions, where a third holds what the two hold.
  module _ (s t u : Session (model world)) (k : Kept s) (l : Kept t) (m : Kept u)
      (same : (r : Record)
      → Memᴰ r u.log ↔ (Memᴰ r s.log ⊎ Memᴰ r t.log)) where
    most : world.yard.b ≤ most_carriers
    most = carriers_most world.yard opens.ranges

    -- At one place the third holds one lever.
    none_differ : Differs s.log t.log → ⊥
    none_differ (r, q, in_one, in_two, step, carrier, lever) =
        let held = held_lever m.climbs ((same r).1 (inl in_one)) in
        let other = held_lever m.climbs ((same q).1 (inr in_two)) in
        let one : r.lever ≡ q.lever = cc (held, other, step, carrier) in
        lever one

    agreed : agree s.log t.log ≡ true
    agreed = agree_not s.log t.log none_differ

    both : merge s.log t.log ≡ u.log
    both =
        let f = fine s k in
        let g = fine t l in
        same_log (fine_merge f g).climbs m.climbs
        (λ r.
        Iff.trans (exactly most f g (agree_said k.climbs l.climbs agreed) r)
        (Iff.symm (same r)))

    pub merged_as : (before : List ℕ) → length before ≡ buffer_size
        → merge_leaves before (said world.yard.b (length before) (log_of s.log)
        (log_of t.log))
        ≡ filled (accepted (length u.log)) (buffer_of u.log)
    merged_as before long =
        let one : records_of (log_of s.log) ≡ s.log = logged (fine s k) in
        let two : records_of (log_of t.log) ≡ t.log = logged (fine t l) in
        let all : both_of (log_of s.log) (log_of t.log) ≡ u.log = rw (one, two) both in
        let given : Mergeable world.yard.b (length before) (log_of s.log) (log_of t.log) =
        record {
          few = ((ranges world.yard).0 opens.ranges).b;
          long = long;
          first = (log_valid _ _).0 (log_is_sound (fine s k) k.few);
          second = (log_valid _ _).0 (log_is_sound (fine t l) l.few);
        } in
        ap (merge_leaves before)
        (is_merged _ _ _ _ given (rw (one, two) agreed) (rw all m.few) ∙ ap accepted all)
