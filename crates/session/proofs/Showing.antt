-- The shown place before the first step.
use Prim.Native.Nat.{ℕ, ◌<◌}
use mathlib.Core.Path.{◌≡◌, refl, sym, ap, ◌∙◌}
use mathlib.Core.Bool.{true}
use borrow.Author.Tests.{lt-ltb, eq-eqb}
use Rattle.basis.specs.Numbers.{step_length}
use Rattle.basis.specs.Order.{accepted, answer}
use Rattle.basis.proofs.Order.{passes, fails, gives}
use Rattle.shown.specs.Answer.{shown_place}
use Rattle.shown.specs.declared.Place.{Place}
use Rattle.yard.specs.declared.carrier.Carrier.{Carrier}
use Rattle.fleet.specs.State.{carrier}
use Rattle.session.specs.declared.Session.{Session}
use Rattle.session.specs.Lent.{Lent}
use Rattle.session.specs.Sound.{sound}
use Rattle.session.specs.Calls.{shown_order, shown_of, previous}
use Rattle.session.proofs.Good.{carriers_most, steps_most, remainder_most, state_long}
use Rattle.session.proofs.Good.{state_kept}

-- 'at n = 0, p is c'
pub first_shown : (session : Session) (l : Lent) (i : ℕ) → sound session l ≡ true
    → i < session.yard.b → session.clock.steps ≡ 0 → (c : Carrier) (place : Place)
    → c ≡ carrier i l.state
    → place ≡ shown_place step_length c.x c.y c.x c.y session.clock.remainder
    → accepted place ≡ answer (shown_order session l i)
unfolding shown_order shown_of
first_shown session l i s h z c place is e =
    let none = eq-eqb _ _ z in
    sym
    (passes _ _ s
    ∙ passes _ _ (lt-ltb _ _ h)
    ∙ passes _ _ (rw none (state_kept session l s))
    ∙ gives _
    ∙ ap accepted (rw (none, ← is) (sym e)))

-- The shown place, from the previous and the present place of the carrier.
pub shown_is : (session : Session) (l : Lent) (i : ℕ)
    → shown_of session l i
    ≡ (let p : Carrier = carrier i (previous session l) in
    let c : Carrier = carrier i l.state in
    shown_place step_length p.x p.y c.x c.y session.clock.remainder)
unfolding shown_of
shown_is session l i = refl

-- What the checks of `digest` and of `shown` are told.
pub ruleset tests =
    (passes, fails, gives, shown_is, carriers_most, steps_most, remainder_most, state_long)
