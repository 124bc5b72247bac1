-- Laws of one reading (document 01, 'Order'): its four outcomes, each exactly when.
use Prim.Native.Nat.{ℕ, ◌+◌, ◌≤◌, ◌<◌}
use mathlib.Core.Path.{◌≡◌, refl, ap, subst, ◌∙◌}
use mathlib.Core.Logic.{◌↔◌}
use mathlib.Core.Bool.{Bool, true, false}
use native.Mathlib.Omega.{arith}
use lib.Dec.{leb}
use borrow.Author.Tests.{leb-true, leb-false, le-leb, lt-leb}
use Rattle.basis.specs.Numbers.{BACKWARD, END, FAULT, most_steps}
use Rattle.basis.specs.Order.{Answer, refused, accepted, check, give, answer}
use Rattle.basis.proofs.Order.{passes, fails, gives}
use Rattle.clock.specs.Clock.{due, sound_clock}
use Rattle.clock.specs.Reading.{given_by, clock_order}
use Rattle.clock.specs.declared.Clock.{Clock}
use Rattle.clock.specs.declared.Given.{Given}
use Rattle.clock.proofs.Sound.{sound_says}
use Rattle.clock.proofs.Ticks.{equal_due, equal_ticked}

module _ (length : ℕ) (clock : Clock) (reading : ℕ) where
  -- What the tests said where a reading is refused with 11, with 12, and where it is accepted.
  abbrev pub Below : Type 0
  Below = (sound_clock length clock ≡ true) × (reading < clock.last)

  abbrev pub Past : Type 0
  Past =
      (sound_clock length clock ≡ true)
      × (clock.last ≤ reading)
      × (most_steps < clock.steps + due length clock reading)

  abbrev pub Within : Type 0
  Within =
      (sound_clock length clock ≡ true)
      × (clock.last ≤ reading)
      × (clock.steps + due length clock reading ≤ most_steps)

  -- An answer with what the tests said. To go by cases, match on `outcome_of`.
  pub data Outcome : Answer Given → Type 0 where
    fault : sound_clock length clock ≡ false → Outcome (refused FAULT)
    backward : Below → Outcome (refused BACKWARD)
    end : Past → Outcome (refused END)
    taken : Within → Outcome (accepted (given_by length clock reading))

  pub outcome_of : Outcome (answer (clock_order length clock reading))
  unfolding clock_order answer
  outcome_of = go _ _ _ refl refl refl
    where
      go : (s f w : Bool) → sound_clock length clock ≡ s → leb clock.last reading ≡ f
          → leb (clock.steps + due length clock reading) most_steps ≡ w
          → Outcome
          (answer
          (check s FAULT (check f BACKWARD (check w END (give (given_by length clock reading))))))
      go false f w p q r = fault p
      go true false w p q r = backward (p, leb-false _ _ q)
      go true true false p q r = end (p, leb-true _ _ q, leb-false _ _ r)
      go true true true p q r = taken (p, leb-true _ _ q, leb-true _ _ r)

  -- From what the tests said to the answer.
  pub is_fault : sound_clock length clock ≡ false
      → answer (clock_order length clock reading) ≡ refused FAULT
  unfolding clock_order
  is_fault s = fails _ _ s

  pub is_backward : Below → answer (clock_order length clock reading) ≡ refused BACKWARD
  unfolding clock_order
  is_backward (s, h) = passes _ _ s ∙ fails _ _ (lt-leb _ _ h)

  pub is_end : Past → answer (clock_order length clock reading) ≡ refused END
  unfolding clock_order
  is_end (s, h, k) = passes _ _ s ∙ passes _ _ (le-leb _ _ h) ∙ fails _ _ (lt-leb _ _ k)

  pub is_taken : Within
      → answer (clock_order length clock reading) ≡ accepted (given_by length clock reading)
  unfolding clock_order
  is_taken (s, h, k) =
      passes _ _ s ∙ passes _ _ (le-leb _ _ h) ∙ passes _ _ (le-leb _ _ k) ∙ gives _

  -- From the answer to what the tests said.
  pub told : (a : Answer Given) → answer (clock_order length clock reading) ≡ a → Outcome a
  told a e = subst Outcome e outcome_of

  pub exactly_fault : (answer (clock_order length clock reading) ≡ refused FAULT)
      ↔ (sound_clock length clock ≡ false)
  exactly_fault = (λ e. go (told _ e), is_fault)
    where
      go : Outcome (refused FAULT) → sound_clock length clock ≡ false
      go (fault s) = s

  pub exactly_backward : (answer (clock_order length clock reading) ≡ refused BACKWARD) ↔ Below
  exactly_backward = (λ e. go (told _ e), is_backward)
    where
      go : Outcome (refused BACKWARD) → Below
      go (backward w) = w

  pub exactly_end : (answer (clock_order length clock reading) ≡ refused END) ↔ Past
  exactly_end = (λ e. go (told _ e), is_end)
    where
      go : Outcome (refused END) → Past
      go (end w) = w

  pub exactly_given : (given : Given)
      → (answer (clock_order length clock reading) ≡ accepted given)
      ↔ (Within × (given_by length clock reading ≡ given))
  exactly_given given = (λ e. go (told _ e), λ w. is_taken w.0 ∙ ap accepted w.1)
    where
      go : {given : Given} → Outcome (accepted given)
          → Within × (given_by length clock reading ≡ given)
      go (taken w) = (w, refl)

-- The answer to a reading, by what the tests said.
pub ruleset outcomes = (is_fault, is_backward, is_end, is_taken)

-- An equal reading is accepted, leaves the clock as it was and makes no step.
pub equal_reading : (length : ℕ) (clock : Clock) → sound_clock length clock ≡ true
    → answer (clock_order length clock clock.last)
    ≡ accepted (record { clock = clock; due = 0 })
equal_reading length clock s =
    let known = sound_says s in
    let within : clock.steps + due length clock clock.last ≤ most_steps =
    omega (arith, equal_due known, known.steps) in
    is_taken length clock clock.last (s, omega arith, within)
    ∙ rw (equal_ticked known, equal_due known)
