-- A reading, number by number: of what its order answers, and of whatever its contract allows.
use Prim.Native.Nat.{ℕ, ◌+◌, ◌<◌, ◌≤◌}
use mathlib.Core.Path.{◌≡◌, refl, sym, ◌∙◌}
use mathlib.Core.Logic.Iff
use mathlib.Core.Logic.{◌↔◌}
use lib.Dec.{leb}
use Rattle.std.specs.Prelude.{Result}
use Rattle.basis.specs.Numbers.{FAULT, BACKWARD, END, most_steps, step_length}
use Rattle.basis.specs.Order.{Answer, refused, accepted, Order, check, give, answer, and_then}
use Rattle.basis.specs.Refusal.{answer_of}
use Rattle.basis.specs.declared.Refusal.{Refusal}
use Rattle.basis.proofs.Tests.{says_le}
use Rattle.basis.proofs.Refusals.{one_answer}
use Rattle.basis.proofs.Ladder.{differs, not_le, flat_three, flat_four, here_iff, later_iff}
use Rattle.basis.proofs.Ladder.{pass_iff, give_iff, lacks_give, lacks_check, implied}
use Rattle.clock.specs.Clock.{due, sound_clock}
use Rattle.clock.specs.Reading.{given_by, clock_order}
use Rattle.clock.proofs.Readings.{equal_reading}
use Rattle.fleet.specs.Run.{run_saving}
use Rattle.session.specs.declared.Session.{Session}
use Rattle.session.specs.Lent.{Lent, Made, tells, leaves, as_before}
use Rattle.session.specs.Sound.{sound}
use Rattle.session.specs.Calls.{read_on, reading_order}
use Rattle.session.specs.Says.{ReadingSays}
use Rattle.session.specs.Facts.{Sound}
use Rattle.session.proofs.Good.{good}
use Rattle.session.proofs.Readings.{clock_gives}
use Rattle.session.proofs.Facts.{sound_means}
use Rattle.demands.specs.Numbers.{ReadingNumbers}
use Rattle.demands.proofs.Outcomes.{outcome_iff}

module _ (session : Session) (t : ℕ) (l : Lent) where
  abbrev reads : Answer (Made Session)
  reads = answer (reading_order session l t)

  abbrev steps_then : ℕ
  steps_then = session.clock.steps + due step_length session.clock t

  abbrev new : Made Session
  new = read_on session l (given_by step_length session.clock t)

  abbrev end_order : Order (Made Session)
  end_order = check (leb steps_then most_steps) END (give new)

  abbrev last_order : Order (Made Session)
  last_order = check (leb session.clock.last t) BACKWARD end_order

  -- The clock's share of 14 is part of sound.
  one_fault : reads ≡ answer (check (sound session l) FAULT last_order)
  unfolding reading_order clock_order and_then
  one_fault =
      implied (sound session l) (sound_clock step_length session.clock) FAULT last_order
      (λ e. (good session l e).clock)

  tested : (a : Answer (Made Session))
      → (reads ≡ a) ↔ (answer (check (sound session l) FAULT last_order) ≡ a)
  tested a = (λ e. sym one_fault ∙ e, λ e. one_fault ∙ e)

  pub is_fault : (reads ≡ refused 14) ↔ (Sound session l → ⊥)
  is_fault =
      Iff.trans (tested _)
      (here_iff (sound_means session l) FAULT last_order
      (lacks_check _ BACKWARD end_order (differs 11 14 refl)
      (lacks_check _ END (give new) (differs 12 14 refl) (lacks_give new))))

  pub is_backward : (reads ≡ refused 11) ↔ (Sound session l × (t < session.clock.last))
  is_backward =
      Iff.trans (tested _)
      (later_iff (sound_means session l) FAULT last_order 11 (differs 14 11 refl)
      (Iff.trans (here_iff (says_le session.clock.last t) BACKWARD end_order
      (lacks_check _ END (give new) (differs 12 11 refl) (lacks_give new)))
      (not_le session.clock.last t)))

  pub is_end : (reads ≡ refused 12)
      ↔ (Sound session l × (session.clock.last ≤ t) × (most_steps < steps_then))
  is_end =
      Iff.trans (tested _) (Iff.trans
      (later_iff (sound_means session l) FAULT last_order 12 (differs 14 12 refl)
      (later_iff (says_le session.clock.last t) BACKWARD end_order 12 (differs 11 12 refl)
      (Iff.trans (here_iff (says_le steps_then most_steps) END (give new) (lacks_give new))
      (not_le steps_then most_steps))))
      flat_three)

  pub is_read : (m : Made Session) → (reads ≡ accepted m)
      ↔ (Sound session l
      × (session.clock.last ≤ t)
      × (steps_then ≤ most_steps)
      × (new ≡ m))
  is_read m =
      Iff.trans (tested _) (Iff.trans
      (pass_iff (sound_means session l) FAULT last_order
      (pass_iff (says_le session.clock.last t) BACKWARD end_order
      (pass_iff (says_le steps_then most_steps) END (give new) (give_iff new))))
      flat_four)

-- An equal reading finds no step due, and hands on what it was given.
pub equal_given : (session : Session) (l : Lent) → Sound session l
    → answer (reading_order session l session.clock.last) ≡ accepted (as_before session l)
unfolding read_on run_saving
equal_given session l s =
    let ok = (sound_means session l).1 s in
    let clock = equal_reading step_length session.clock (good session l ok).clock in
    clock_gives session l session.clock.last ok _ clock

module _ (session : Session) (t : ℕ) (l : Lent) (out : Made (Result Session Refusal))
    (says : ReadingSays session t l out) where
  by : (this : Made (Result Session Refusal)) (a : Answer (Made Session))
      → tells answer_of this ≡ leaves l a
      → (out ≡ this) ↔ (answer (reading_order session l t) ≡ a)
  by = outcome_iff one_answer l (answer (reading_order session l t)) out says

  pub reading_numbers : ReadingNumbers session t l out
  reading_numbers =
      record {
        fault = Iff.trans (by _ (refused 14) refl) (is_fault session t l);
        backward = Iff.trans (by _ (refused 11) refl) (is_backward session t l);
        end = Iff.trans (by _ (refused 12) refl) (is_end session t l);
        read = Iff.trans (by _ (accepted (new session t l)) refl)
            (Iff.trans (is_read session t l _)
            (λ (s, h, k, e). (s, h, k), λ (s, h, k). (s, h, k, refl)));
        equal = λ s e. (by _ (accepted (as_before session l)) refl).1
            (rw e (equal_given session l s));
      }
