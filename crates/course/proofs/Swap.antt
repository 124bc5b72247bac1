-- Two records taken one right after the other are taken in the other order, and end alike.
use Prim.Native.Nat.{ℕ}
use mathlib.Core.Path.{◌≡◌, refl, sym, ap, subst, ◌∙◌}
use mathlib.Core.Logic.{◌≢◌}
use mathlib.Core.List.{List}
use Rattle.std.proofs.lemmas.Option.{none-some}
use native.Mathlib.Omega.{arith}
use Rattle.basis.specs.Order.{accepted}
use Rattle.record.specs.Bytes.{record_of}
use Rattle.record.specs.declared.bytes.Record.{Record}
use Rattle.record.proofs.OneRecord.{Within}
use Rattle.record.proofs.Insertion.{length_put_in}
use Rattle.course.specs.World.{World, Lawful}
use Rattle.course.specs.Session.{Session, with_log}
use Rattle.course.specs.Calls.{delivery, taken, take_in, answer_to}
use Rattle.course.proofs.Levers.{At, at_same, put_own, put_other, put_either}
use Rattle.course.proofs.Records.{one_log}
use Rattle.course.proofs.Calls.{Takes, is_taken_at, is_placed, Took, took_says}
use Rattle.course.proofs.Kept.{Kept, kept_take, row_good}

-- Sessions that keep, with one clock and one log, are one session.
one_session : {world : World} {s u : Session world} → Kept s → Kept u → s.clock ≡ u.clock
    → s.log ≡ u.log → s ≡ u
one_session {s = s} {u = u} k j clock log =
    let made : s.made ≡ u.made = k.made ∙ rw (clock, log) (sym j.made) in
    λ i. record { clock = clock i; log = log i; made = made i }

-- Of two records that are both taken, the first doesn't stand at the place of the second.
elsewhere : {world : World} (s : Session world) (a b : Record) → Takes (take_in s a) b
    → At b.step b.carrier a → ⊥
unfolding with_log
elsewhere s a b second at =
    none-some _ (sym second.free ∙ sym (at_same _ at) ∙ put_own a s.log)

module _ {world : World} (s t u : Session world) (a b : List ℕ)
    (first : answer_to s (delivery a) ≡ accepted (taken t))
    (second : answer_to t (delivery b) ≡ accepted (taken u)) where
  both_say : (one : Took s a t) × Took (take_in s one.this) b u
  both_say =
      let one = took_says s a first in
      (one, subst (λ x. Took x b u) (sym one.leaves) (took_says t b second))

  pub places_differ : (record_of a).step ≡ (record_of b).step
      → (record_of a).carrier ≢ (record_of b).carrier
  places_differ step carrier =
      let one = both_say.0 in
      let two = both_say.1 in
      elsewhere s one.this two.this two.takes
      (rw (one.here, two.here) (record { step = step; carrier = carrier }))

module _ {world : World} (law : Lawful world) where
  module _ {s : Session world} (k : Kept s) {a b : Record} (in-a : Within world.carriers a)
      (in_b : Within world.carriers b) (first : Takes s a) (second : Takes (take_in s a) b) where
    b_first : Takes s b
    unfolding with_log
    b_first =
        let other = put_other b.step b.carrier a s.log (elsewhere s a b second) in
        record {
          free = sym other ∙ second.free;
          timely = second.timely;
          room = omega (arith, second.room, length_put_in a s.log);
          row = row_good law b k second.timely;
        }

    a_second : Takes (take_in s b) a
    unfolding with_log
    a_second =
        record {
          free =
              put_other a.step a.carrier b s.log
              (λ at.
              elsewhere s a b second
              (record { step = sym at.step; carrier = sym at.carrier }))
              ∙ first.free;
          timely = first.timely;
          room = omega (arith, second.room, length_put_in a s.log, length_put_in b s.log);
          row = row_good law a (kept_take law k in_b b_first) first.timely;
        }

    same_end : take_in (take_in s b) a ≡ take_in (take_in s a) b
    unfolding with_log
    same_end =
        let one = kept_take law (kept_take law k in-a first) in_b second in
        let two = kept_take law (kept_take law k in_b b_first) in-a a_second in
        one_session two one refl
        (one_log two.climbs one.climbs
        (λ t carrier. sym (put_either t carrier a b s.log (elsewhere s a b second))))

  pub swap : (s t u : Session world) (a b : List ℕ) → Kept s
      → answer_to s (delivery a) ≡ accepted (taken t)
      → answer_to t (delivery b) ≡ accepted (taken u)
      → (v : Session world)
      × (answer_to s (delivery b) ≡ accepted (taken v))
      × (answer_to v (delivery a) ≡ accepted (taken u))
  swap s t u a b k first second =
      let one = (both_say s t u a b first second).0 in
      let two = (both_say s t u a b first second).1 in
      let taken-b = b_first k one.limits two.limits one.takes two.takes in
      let taken-a = a_second k one.limits two.limits one.takes two.takes in
      let alike = same_end k one.limits two.limits one.takes two.takes in
      let v = take_in s two.this in (
        v,
        is_placed s b two.reads ∙ is_taken_at s two.this taken-b,
        is_placed v a one.reads
            ∙ is_taken_at v one.this taken-a
            ∙ ap (λ x. accepted (taken x)) (alike ∙ two.leaves),
      )
