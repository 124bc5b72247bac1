-- A reading of a sound session: what the clock refuses or gives decides.
use Prim.Native.Nat.{ℕ, ◌+◌, ◌*◌, ◌-◌, ◌≤◌}
use mathlib.Core.Path.{◌≡◌, sym, ap, ◌∙◌}
use mathlib.Core.List.{List}
use mathlib.Core.Bool.{true, false}
use native.Mathlib.Omega.{arith}
use Rattle.std.specs.Prelude.{Result, Ok, IsErrAnd}
use lib.IntN.{ℤ}
use lib.ListN.{take}
use Rattle.basis.specs.Numbers.{FAULT, most_steps, step_length}
use Rattle.basis.specs.Order.{answer, refused, accepted}
use Rattle.basis.specs.Refusal.{number_of, answer_of}
use Rattle.basis.specs.declared.Refusal.{Refusal}
use Rattle.basis.proofs.Order.{passes, fails, gives, stops, goes_on}
use Rattle.record.specs.Log.{records_of}
use Rattle.clock.specs.Reading.{clock_order}
use Rattle.clock.specs.declared.Given.{Given}
use Rattle.clock.proofs.Readings.{exactly_given}
use Rattle.fleet.specs.Run.{Course, course_of, run_saving}
use Rattle.session.specs.declared.Session.{Session}
use Rattle.session.specs.Lent.{Lent, world_in, made, as_before, tells, leaves}
use Rattle.session.specs.Sound.{sound}
use Rattle.session.specs.Calls.{course_in, with_clock, read_on, reading_order}
use Rattle.session.proofs.Refused.{refuses}
use Rattle.session.proofs.Good.{steps_most, held_most, clock_sound, log_holds}

module _ (session : Session) (l : Lent) (t : ℕ) where
  pub reading_unsound : sound session l ≡ false → answer (reading_order session l t) ≡ refused FAULT
  unfolding reading_order
  reading_unsound e = fails _ _ e

  module _ (ok : sound session l ≡ true) where
    pub reading_refused : (r : Result Session Refusal) (why : Refusal) → IsErrAnd r (λ e. e ≡ why)
        → answer (clock_order step_length session.clock t) ≡ refused (number_of why)
        → tells answer_of (as_before r l) ≡ leaves l (answer (reading_order session l t))
    unfolding reading_order
    reading_refused r why h e = refuses l r why h (passes _ _ ok ∙ stops _ _ e)

    module _ (given : Given)
        (e : answer (clock_order step_length session.clock t) ≡ accepted given) where
      pub clock_gives : answer (reading_order session l t) ≡ accepted (read_on session l given)
      unfolding reading_order
      clock_gives = passes _ _ ok ∙ goes_on _ _ e ∙ gives _

      -- The steps due fit in what a session makes.
      pub due_fits : session.clock.steps + given.due ≤ most_steps
      due_fits =
          let told = (exactly_given step_length session.clock t given).0 e in
          omega (arith, told.0.2, ap (λ (g : Given). g.due) told.1)

      -- What the steps due leave is what the reading leaves.
      pub reading_left : (state rows : List ℤ)
          → course_of state rows
          ≡ run_saving (world_in session l) (records_of (take (8 * session.held) l.log))
          session.clock.steps (session.clock.steps + given.due - session.clock.steps) (course_in l)
          → tells answer_of (made (Ok (with_clock session given.clock)) state rows l.log)
          ≡ leaves l (answer (reading_order session l t))
      unfolding read_on
      reading_left state rows ran =
          let due : session.clock.steps + given.due - session.clock.steps ≡ given.due =
          omega arith in
          ap
          (λ (course : Course). made (accepted (with_clock session given.clock)) course.state
          course.rows l.log)
          (ran ∙ rw (due, log_holds session l ok))
          ∙ sym (ap (leaves l) clock_gives)

-- What the check of `Session::reading` is told.
pub ruleset reading = (steps_most, held_most, clock_sound, reading_unsound, due_fits)
