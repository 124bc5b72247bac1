-- What a call adds to the records held: an accepted delivery its record, any other call nothing.
use Prim.Native.Nat.{ℕ}
use mathlib.Core.Path.{◌≡◌, refl, sym, ap, subst, ◌∙◌}
use mathlib.Core.Logic.{◌↔◌, ◌⊎◌, inl, inr, ⊎_elim}
use mathlib.Core.Bool.{true, false}
use mathlib.Core.List.{List, Memᴰ}
use Rattle.std.specs.Prelude.{Some}
use Rattle.basis.specs.Order.{Answer, refused, accepted, is_accepted}
use Rattle.basis.proofs.Tests.{never}
use Rattle.record.specs.Bytes.{record_of}
use Rattle.record.specs.declared.bytes.Record.{Record}
use Rattle.record.proofs.OneRecord.{reads}
use Rattle.record.proofs.Insertion.{member_put_in}
use Rattle.record.proofs.Members.{lever_held}
use Rattle.record.proofs.Placing.{same, other, late, full, broken, takes}
use Rattle.clock.specs.declared.Given.{Given}
use Rattle.course.specs.World.{World}
use Rattle.course.specs.Session.{Session, with_log}
use Rattle.course.specs.Calls.{reading, delivery, Outcome, answer_to, left, next}
use Rattle.course.proofs.Calls.{PlacedAs, told_at, held_at, by_clock, read_left, read_leaves}
use Rattle.course.proofs.Calls.{by_bytes, is_malformed, is_placed}

module _ {world : World} (s : Session world) where
  pub read_log : (t : ℕ) → (next s (reading t)).log ≡ s.log
  read_log t = ap (λ (u : Session world). u.log) (read_leaves s t) ∙ go (by_clock s t)
    where
      go : (a : Answer Given) → (read_left s a).log ≡ s.log
      go (accepted given) = refl
      go (refused number) = refl

  -- What an answer to these bytes adds.
  module _ (bytes : List ℕ) (x : Record) where
    abbrev Adds : Answer (Outcome world) → Type 0
    Adds a =
        Memᴰ x (left s a).log
        ↔ (Memᴰ x s.log ⊎ ((is_accepted a ≡ true) × (x ≡ record_of bytes)))

    -- A refusal adds nothing.
    adds_none : Memᴰ x s.log
        ↔ (Memᴰ x s.log ⊎ ((false ≡ true) × (x ≡ record_of bytes)))
    adds_none = (inl, ⊎_elim (λ m. m) (λ h. never h.0 refl))

    module _ (r : Record) (here : r ≡ record_of bytes) where
      already : held_at s r ≡ Some r.lever → x ≡ record_of bytes → Memᴰ x s.log
      already h e = subst (λ y. Memᴰ y s.log) (here ∙ sym e) (lever_held s.log h)

      adds : {a : Answer (Outcome world)} → PlacedAs s r a → Adds a
      unfolding with_log
      adds (same h) = (inl, ⊎_elim (λ m. m) (λ e. already h e.1))
      adds (other h) = adds_none
      adds (late h) = adds_none
      adds (full h) = adds_none
      adds (broken h) = adds_none
      adds (takes k) =
          let put = member_put_in r s.log in (
            λ m. ⊎_elim (λ e. inr (refl, e ∙ here)) inl (put.0 m),
            ⊎_elim (λ m. put.1 (inr m)) (λ e. put.1 (inl (e.1 ∙ sym here))),
          )

    pub delivery_adds : Memᴰ x (next s (delivery bytes)).log
        ↔ (Memᴰ x s.log
        ⊎ ((is_accepted (answer_to s (delivery bytes)) ≡ true) × (x ≡ record_of bytes)))
    unfolding next
    delivery_adds = go (by_bytes s bytes) refl
      where
        go : (a : Answer Record) → by_bytes s bytes ≡ a → Adds (answer_to s (delivery bytes))
        go (refused number) e = rw (is_malformed s bytes e) adds_none
        go (accepted r) e =
            rw (is_placed s bytes e)
            (adds r (reads world.carriers bytes r e).here (told_at s r refl))
