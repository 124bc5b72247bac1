-- What many calls leave: the clock goes by the readings alone, and a record once held stays held.
use Prim.Native.Nat.{ℕ}
use mathlib.Core.Path.{◌≡◌, refl, sym, subst, ◌∙◌}
use mathlib.Core.List.{List, [], ◌∷◌}
use Rattle.std.specs.Prelude.{Some}
use Rattle.std.proofs.lemmas.Option.{none-some}
use Rattle.basis.specs.Order.{Answer, refused, accepted}
use Rattle.record.specs.declared.bytes.Record.{Record}
use Rattle.clock.specs.Reading.{clock_left}
use Rattle.clock.specs.declared.Given.{Given}
use Rattle.clock.specs.History.{after_readings}
use Rattle.course.specs.World.{World}
use Rattle.course.specs.Session.{Session, with_log}
use Rattle.course.specs.Calls.{Call, reading, delivery, taken, held, answer_to, next, run}
use Rattle.course.specs.Calls.{readings_of}
use Rattle.course.proofs.Levers.{At, at_same, put_own, put_other}
use Rattle.course.proofs.Calls.{held_at, Takes, is_held_at, by_clock, read_left}
use Rattle.course.proofs.Calls.{read_leaves, is_placed, take_keeps, took_says}

module _ {world : World} where
  left_clock : (s : Session world) (a : Answer Given) → (read_left s a).clock ≡ clock_left s.clock a
  left_clock s (accepted given) = refl
  left_clock s (refused number) = refl

  next_clock : (s : Session world) (bytes : List ℕ) → (next s (delivery bytes)).clock ≡ s.clock
  unfolding with_log
  next_clock s bytes = take_keeps s bytes (λ u. u.clock ≡ s.clock) refl (λ r w k. refl)

  pub clock_is : (s : Session world) (calls : List Call)
      → (run s calls).clock ≡ after_readings world.length s.clock (readings_of calls)
  unfolding run readings_of after_readings
  clock_is s [] = refl
  clock_is s (reading t ∷ calls) =
      clock_is (next s (reading t)) calls ∙ rw (read_leaves s t, left_clock s)
  clock_is s (delivery bytes ∷ calls) =
      clock_is (next s (delivery bytes)) calls ∙ rw (next_clock s bytes)

  module _ (r : Record) where
    Stays : Session world → Type 0
    Stays s = held_at s r ≡ Some r.lever

    stays_next : (s : Session world) (call : Call) → Stays s → Stays (next s call)
    unfolding Stays with_log
    stays_next s (reading t) h = rw (read_leaves s t) (go (by_clock s t))
      where
        go : (a : Answer Given) → Stays (read_left s a)
        go (accepted given) = h
        go (refused number) = h
    stays_next s (delivery bytes) h =
        take_keeps s bytes Stays h
        (λ new w k. put_other r.step r.carrier new s.log (elsewhere new k) ∙ h)
      where
        elsewhere : (new : Record) → Takes s new → At r.step r.carrier new → ⊥
        elsewhere new k at = none-some _ (sym k.free ∙ at_same s.log at ∙ h)

    stays : (s : Session world) (calls : List Call) → Stays s → Stays (run s calls)
    unfolding run
    stays s [] h = h
    stays s (call ∷ calls) h = stays (next s call) calls (stays_next s call h)

  -- A record once taken is HELD when it is sent again.
  pub held_again : (s new : Session world) (bytes : List ℕ) (between : List Call)
      → answer_to s (delivery bytes) ≡ accepted (taken new)
      → answer_to (run new between) (delivery bytes) ≡ accepted held
  unfolding Stays with_log
  held_again s new bytes between e =
      let took = took_says s bytes e in
      let r = took.this in
      let here = subst (Stays r) took.leaves (put_own r s.log) in
      is_placed (run new between) bytes took.reads
      ∙ is_held_at (run new between) r (stays r new between here)
