-- Demand 3 at the words, from the model's.
use Prim.Native.Nat.{ℕ}
use mathlib.Core.Path.{◌≡◌, refl, sym, ap, subst, ◌∙◌}
use mathlib.Core.Bool.{Bool, false}
use mathlib.Core.Logic.{◌↔◌, ◌≢◌}
use mathlib.Core.List.{List, [], ◌∷◌, Memᴰ, flatten}
use lib.Dec.{eqb}
use borrow.Author.Tests.{eq-eqb}
use Rattle.basis.specs.Numbers.{TAKEN}
use Rattle.basis.specs.Order.{Answer, refused, accepted}
use Rattle.basis.proofs.Order.{apart, mapped}
use Rattle.basis.proofs.Tests.{never}
use Rattle.record.specs.Bytes.{record_of}
use Rattle.record.specs.Buffer.{buffer_of}
use Rattle.record.specs.declared.bytes.Record.{Record}
use Rattle.fleet.specs.State.{World}
use Rattle.course.specs.Session.{Session}
use Rattle.course.specs.Statements.{Demand3 as Demand3Model}
use Rattle.course.specs.Calls.{Call, delivery, Outcome, read, taken, held, answer_to}
use Rattle.course.specs.Calls.{run as modelRun, session_after}
use Rattle.course.specs.Calls.{Reached as ModelReached}
use Rattle.course.proofs.Calls.{PlacedAs, told_at, by_bytes, is_malformed, is_placed}
use Rattle.course.proofs.Calls.{leaves as leaves-model}
use Rattle.course.proofs.Kept.{Kept, kept_next, kept_run}
use Rattle.course.proofs.Statements.{course}
use Rattle.session.specs.Lent.{Made}
use Rattle.session.specs.Calls.{Delivery, unchanged}
use Rattle.demands.specs.Handed.{Handed, lent_in, delivery_answer, next, after_calls}
use Rattle.demands.specs.Handed.{held_by}
use Rattle.demands.specs.Statements.{Taken, Same, Demand3}
use Rattle.demands.proofs.Model.{Opens, model, lawful}
use Rattle.demands.proofs.Ties.{handed, as_delivered, same_delivery, same_records}
use Rattle.demands.proofs.Sessions.{same_run, same_next, Modelled, modelled}
use Rattle.demands.proofs.Demand2.{demand2, digests}

module _ (world : World) (opens : Opens world) (s : Session (model world)) (k : Kept s) where
  -- A delivery gives no answer of a reading.
  no_reading : (bytes : List ℕ) {new : Session (model world)} {A : Type 0}
      → answer_to s (delivery bytes) ≡ accepted (read new) → A
  no_reading bytes {new} {A} e = go (by_bytes s bytes) refl
    where
      none : {r : Record} → PlacedAs s r (accepted (read new)) → A
      none p = elim p [ ]

      go : (a : Answer Record) → by_bytes s bytes ≡ a → A
      go (refused number) q = apart (sym (is_malformed s bytes q) ∙ e)
      go (accepted r) q = none (told_at s r (sym (is_placed s bytes q) ∙ e))

  -- TAKEN in the words is TAKEN in the model, and back.
  pub record TakenAs (bytes : List ℕ) : Type 0 where
    pub new : Session (model world)
    pub taken : answer_to s (delivery bytes) ≡ accepted (taken new)

  abbrev says_taken : Answer (Made Delivery) → Bool
  says_taken (accepted made) = eqb made.result.number TAKEN
  says_taken (refused number) = false

  -- What a delivery is answered in the words, by the model's answer.
  pub answered : (bytes : List ℕ) {a : Answer (Outcome (model world))}
      → answer_to s (delivery bytes) ≡ a
      → delivery_answer world (handed world s) bytes ≡ mapped (as_delivered world opens s k) a
  answered bytes e = rw (same_delivery world opens s k bytes, e)

  taken_as : (bytes : List ℕ) → Taken world (handed world s) bytes → TakenAs bytes
  taken_as bytes t = go (answer_to s (delivery bytes)) refl
    where
      none : {a : Answer (Outcome (model world))} → answer_to s (delivery bytes) ≡ a
          → says_taken (mapped (as_delivered world opens s k) a) ≡ false → TakenAs bytes
      none e f =
          never (ap says_taken (sym (answered bytes e) ∙ t.answer) ∙ eq-eqb _ _ t.number) f

      go : (a : Answer (Outcome (model world))) → answer_to s (delivery bytes) ≡ a → TakenAs bytes
      go (accepted (taken new)) e = record { new = new; taken = e }
      go (accepted (read new)) e = no_reading bytes e
      go (accepted held) e = none e refl
      go (refused number) e = none e refl

  as_taken : (bytes : List ℕ) {new : Session (model world)}
      → answer_to s (delivery bytes) ≡ accepted (taken new) → Taken world (handed world s) bytes
  as_taken bytes e = record { made = _; answer = answered bytes e; number = refl }

  -- What a delivery that was taken leaves, and hands on.
  module _ (bytes : List ℕ) {new : Session (model world)}
      (e : answer_to s (delivery bytes) ≡ accepted (taken new)) where
    next_kept : Kept new
    next_kept =
        subst Kept (leaves-model s (delivery bytes) e)
        (kept_next (lawful world opens) (delivery bytes) k)

    next_words : next world (handed world s) (delivery bytes) ≡ handed world new
    next_words =
        same_next world opens s k (delivery bytes)
        ∙ ap (handed world) (leaves-model s (delivery bytes) e)

-- The parts of demand 3, of the words of sessions of the model.
module _ (world : World) (opens : Opens world) where
  abbrev law : Demand3Model (model world)
  law = course.demand3 (model world) (lawful world opens)

  converge : (s u : Session (model world)) → Kept s → Kept u → ModelReached s → ModelReached u
      → s.clock.steps ≡ u.clock.steps
      → ((r : Record)
      → Memᴰ r (held_by (handed world s)) ↔ Memᴰ r (held_by (handed world u)))
      → Same world (handed world s) (handed world u)
  converge s u k j p q steps same =
      let records : (r : Record) → Memᴰ r s.log ↔ Memᴰ r u.log =
      λ r. rw (same_records world opens s k, same_records world opens u j) at (same r) in
      let alike = law.converge s u p q steps records in
      record {
        state = alike.state;
        rows = ap flatten alike.rows;
        log = ap buffer_of alike.log;
        digest = digests world opens s k ∙ rw (steps, alike.state) (sym (digests world opens u j));
        demand2 = demand2 world opens s k;
      }

  again : (s : Session (model world)) → Kept s → (between : List Call) (bytes : List ℕ)
      → Taken world (handed world s) bytes
      → (later : Handed) → after_calls world (handed world s) (delivery bytes ∷ between) ≡ later
      → delivery_answer world later bytes ≡ accepted (unchanged later.result (lent_in world later))
  unfolding after_calls
  again s k between bytes t later e =
      let took = taken_as world opens s k bytes t in
      let new = took.new in
      let kept = next_kept world opens s k bytes took.taken in
      let words : handed world (modelRun new between) ≡ later =
      sym (same_run world opens new kept between)
      ∙ ap (λ h. after_calls world h between) (sym (next_words world opens s k bytes took.taken))
      ∙ e in
      subst
      (λ h. delivery_answer world h bytes ≡ accepted (unchanged h.result (lent_in world h)))
      words
      (answered world opens (modelRun new between) (kept_run (lawful world opens) between kept)
      bytes (law.again s new bytes between took.taken).0)

  -- Two deliveries that the model takes one right after the other.
  both : (s : Session (model world)) → Kept s → (a b : List ℕ) {t u : Session (model world)}
      → answer_to s (delivery a) ≡ accepted (taken t)
      → answer_to t (delivery b) ≡ accepted (taken u)
      → Taken world (handed world s) a
      × Taken world (next world (handed world s) (delivery a)) b
      × (after_calls world (handed world s) (delivery a ∷ delivery b ∷ []) ≡ handed world u)
  unfolding after_calls
  both s k a b {t} e f =
      let kept = next_kept world opens s k a e in
      let words = next_words world opens s k a e in (
        as_taken world opens s k a e,
        subst (λ h. Taken world h b) (sym words) (as_taken world opens t kept b f),
        ap (λ h. next world h (delivery b)) words ∙ next_words world opens t kept b f,
      )

  -- And two that the words take.
  pub record Both (s : Session (model world)) (a b : List ℕ) : Type 0 where
    pub first : Session (model world)
    pub second : Session (model world)
    pub takes : answer_to s (delivery a) ≡ accepted (taken first)
    pub then : answer_to first (delivery b) ≡ accepted (taken second)

  both_taken : (s : Session (model world)) → Kept s → (a b : List ℕ)
      → Taken world (handed world s) a
      → Taken world (next world (handed world s) (delivery a)) b
      → Both s a b
  both_taken s k a b ta tb =
      let one = taken_as world opens s k a ta in
      let kept = next_kept world opens s k a one.taken in
      let words = next_words world opens s k a one.taken in
      let two = taken_as world opens one.new kept b (subst (λ h. Taken world h b) words tb) in
      record { first = one.new; second = two.new; takes = one.taken; then = two.taken }

  swap : (s : Session (model world)) → Kept s → ModelReached s → (a b : List ℕ) → Both s a b
      → Taken world (handed world s) b
      × Taken world (next world (handed world s) (delivery b)) a
      × (after_calls world (handed world s) (delivery b ∷ delivery a ∷ [])
      ≡ after_calls world (handed world s) (delivery a ∷ delivery b ∷ []))
      × ((record_of a).step ≡ (record_of b).step → (record_of a).carrier ≢ (record_of b).carrier)
  swap s k p a b t =
      let w = law.swap s t.first t.second a b p t.takes t.then in
      let other = both s k b a w.1 w.2 in (
        other.0,
        other.1,
        other.2 ∙ sym (both s k a b t.takes t.then).2,
        law.apart s t.first t.second a b t.takes t.then,
      )

-- Demand 3 of every world: each session of it has the words of one of the model.
pub demand3 : (world : World) → Demand3 world
demand3 world =
    record {
      converge = λ first other calls others h k p q.
          let m = modelled p in
          let n = modelled q in
          subst
          (λ x. x.result.clock.steps ≡ k.result.clock.steps
          → ((r : Record) → Memᴰ r (held_by x) ↔ Memᴰ r (held_by k)) → Same world x k)
          m.words
          (subst
          (λ y. (of m).clock.steps ≡ y.result.clock.steps
          → ((r : Record) → Memᴰ r (held_by (handed world (of m))) ↔ Memᴰ r (held_by y))
          → Same world (handed world (of m)) y)
          n.words
          (converge world m.opens (of m) (of n) m.kept n.kept m.reached n.reached));
      again = λ first calls between h later bytes p.
          let m = modelled p in
          subst
          (λ x. Taken world x bytes → after_calls world x (delivery bytes ∷ between) ≡ later
          → delivery_answer world later bytes
          ≡ accepted (unchanged later.result (lent_in world later)))
          m.words
          (λ t. again world m.opens (of m) m.kept between bytes t later);
      swap = λ first calls h a b p.
          let m = modelled p in
          subst
          (λ x. Taken world x a → Taken world (next world x (delivery a)) b
          → Taken world x b × Taken world (next world x (delivery b)) a
          × (after_calls world x (delivery b ∷ delivery a ∷ [])
          ≡ after_calls world x (delivery a ∷ delivery b ∷ []))
          × ((record_of a).step ≡ (record_of b).step → (record_of a).carrier ≢ (record_of b).carrier))
          m.words
          (λ ta tb.
          swap world m.opens (of m) m.kept m.reached a b
          (both_taken world m.opens (of m) m.kept a b ta tb));
      grouping = λ first calls others h k p q a b c d e.
          let m = modelled p in
          let n = modelled q in
          let alike = (law world m.opens).grouping first calls others a b c d e in (
            ap (λ x. x.result.clock.steps) (sym m.words)
                ∙ alike.0
                ∙ ap (λ x. x.result.clock.steps) n.words,
            ap (λ x. x.result.clock.remainder) (sym m.words)
                ∙ alike.1
                ∙ ap (λ x. x.result.clock.remainder) n.words,
          );
    }
  where
    of : {first : ℕ} {calls : List Call} {h : Handed} → Modelled world first calls h
        → Session (model world)
    of {first} {calls} m = session_after (model world) first calls
