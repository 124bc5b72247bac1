-- The digest and the shown place, number by number: of what their orders answer, and of whatever
-- their contracts allow.
use Prim.Native.Nat.{ℕ, ◌-◌, ◌<◌, ◌≤◌}
use mathlib.Core.Path.{◌≡◌, refl}
use mathlib.Core.Logic.Iff
use mathlib.Core.Logic.{◌↔◌, ◌⊎◌, ⊎_elim, inl, inr}
use mathlib.Core.Bool.{Bool, true, false, cond}
use native.Mathlib.Omega.{arith}
use borrow.Author.Tests.{eqb-true, eqb-false}
use lib.Dec.{ltb, eqb}
use Rattle.std.specs.Prelude.{Result, Ok, Err}
use Rattle.basis.specs.Numbers.{FAULT, CARRIER}
use Rattle.basis.specs.Order.{refused, accepted, Order, check, give, answer}
use Rattle.basis.specs.declared.Refusal.{Refusal}
use Rattle.basis.specs.declared.Refusal.TheVariants as why
use Rattle.basis.proofs.Tests.{says_lt}
use Rattle.basis.proofs.Ladder.{differs, not_lt, here_iff, both_iff, later_iff, pass_iff, give_iff}
use Rattle.basis.proofs.Ladder.{lacks_give, lacks_check}
use Rattle.digest.specs.Fnv.{digest_of}
use Rattle.digest.specs.Words.{state_bytes}
use Rattle.shown.specs.declared.Place.{Place}
use Rattle.fleet.specs.State.{sound_state}
use Rattle.fleet.proofs.Carriers.{state_sound}
use Rattle.session.specs.declared.Session.{Session}
use Rattle.session.specs.Lent.{Lent, world_in}
use Rattle.session.specs.Calls.{digest_order, shown_order, shown_of, previous, row_in}
use Rattle.session.specs.Says.{DigestSays, ShownSays}
use Rattle.session.specs.Facts.{Sound, RowSound}
use Rattle.session.proofs.Facts.{sound_means}
use Rattle.demands.specs.Numbers.{DigestNumbers, ShownNumbers}
use Rattle.demands.proofs.Outcomes.{answer_iff}

module _ (session : Session) (l : Lent) where
  abbrev value : ℕ
  value = digest_of (state_bytes session.clock.steps l.state)

  pub digest_fault : (answer (digest_order session l) ≡ refused 14) ↔ (Sound session l → ⊥)
  unfolding digest_order
  digest_fault = here_iff (sound_means session l) FAULT (give value) (lacks_give value)

  pub digest_given : (v : ℕ)
      → (answer (digest_order session l) ≡ accepted v) ↔ (Sound session l × (value ≡ v))
  unfolding digest_order
  digest_given v = pass_iff (sound_means session l) FAULT (give value) (give_iff value)

  pub digest_numbers : (out : Result ℕ Refusal) → DigestSays session l out
      → DigestNumbers session l out
  digest_numbers out says =
      record {
        fault = Iff.trans (answer_iff says (Err why.Fault)) digest_fault;
        value = Iff.trans (answer_iff says (Ok value))
            (Iff.trans (digest_given value) (λ (s, e). s, λ s. (s, refl)));
      }

  -- The row before the last step is sound, where there is one.
  abbrev Before : Type 0
  Before = 0 < session.clock.steps → RowSound session l (session.clock.steps - 1)

  before : Sound session l
      → (sound_state (world_in session l) (previous session l) ≡ true) ↔ Before
  before s = go (eqb session.clock.steps 0) refl
    where
      go : (t : Bool) → eqb session.clock.steps 0 ≡ t
          → (sound_state (world_in session l)
          (cond t l.state (row_in session l (session.clock.steps - 1))) ≡ true) ↔ Before
      go true e = (
        λ q h. absurd (omega (arith, h, eqb-true session.clock.steps 0 e)),
        λ f. (state_sound (world_in session l) l.state).1 s.state,
      )
      go false e =
          let some = eqb-false session.clock.steps 0 e in
          let made : 0 < session.clock.steps = omega (arith, some) in
          let row = state_sound (world_in session l) (row_in session l (session.clock.steps - 1)) in
          (λ q h. row.0 q, λ f. row.1 (f made))

  -- And isn't.
  broken : Sound session l
      → ((sound_state (world_in session l) (previous session l) ≡ true) → ⊥)
      ↔ ((0 < session.clock.steps) × (RowSound session l (session.clock.steps - 1) → ⊥))
  broken s = (
    λ nay. (
      some nay (eqb session.clock.steps 0) refl,
      λ f. nay ((before s).1 (λ h. f)),
    ),
    λ (h, f) q. f ((before s).0 q h),
  )
    where
      some : ((sound_state (world_in session l) (previous session l) ≡ true) → ⊥)
          → (t : Bool) → eqb session.clock.steps 0 ≡ t → 0 < session.clock.steps
      some nay true e =
          let zero = eqb-true session.clock.steps 0 e in
          absurd (nay ((before s).1 (λ h. absurd (omega (arith, h, zero)))))
      some nay false e = omega (arith, eqb-false session.clock.steps 0 e)

  module _ (i : ℕ) where
    abbrev at : Place
    at = shown_of session l i

    abbrev row_order : Order Place
    row_order = check (sound_state (world_in session l) (previous session l)) FAULT (give at)

    abbrev carrier_order : Order Place
    carrier_order = check (ltb i session.yard.b) CARRIER row_order

    pub shown_fault : (answer (shown_order session l i) ≡ refused 14)
        ↔ ((Sound session l → ⊥)
        ⊎ (Sound session l
        × (i < session.yard.b)
        × (0 < session.clock.steps)
        × (RowSound session l (session.clock.steps - 1) → ⊥)))
    unfolding shown_order
    shown_fault =
        Iff.trans
        (both_iff (sound_means session l) FAULT carrier_order
        (later_iff (says_lt i session.yard.b) CARRIER row_order 14 (differs 3 14 refl)
        (here_iff Iff.rfl FAULT (give at) (lacks_give at)))) (
          ⊎_elim inl (λ (g, (h, q)). let w = (broken g).0 q in inr (g, h, w.0, w.1)),
          ⊎_elim inl (λ (g, h, p, f). inr (g, (h, (broken g).1 (p, f)))),
        )

    pub shown_carrier : (answer (shown_order session l i) ≡ refused 3)
        ↔ (Sound session l × (session.yard.b ≤ i))
    unfolding shown_order
    shown_carrier =
        later_iff (sound_means session l) FAULT carrier_order 3 (differs 14 3 refl)
        (Iff.trans (here_iff (says_lt i session.yard.b) CARRIER row_order
        (lacks_check _ FAULT (give at) (differs 14 3 refl) (lacks_give at)))
        (not_lt i session.yard.b))

    pub shown_given : (place : Place) → (answer (shown_order session l i) ≡ accepted place)
        ↔ (Sound session l × (i < session.yard.b) × Before × (at ≡ place))
    unfolding shown_order
    shown_given place =
        Iff.trans
        (pass_iff (sound_means session l) FAULT carrier_order
        (pass_iff (says_lt i session.yard.b) CARRIER row_order
        (pass_iff Iff.rfl FAULT (give at) (give_iff at)))) (
          λ (g, (h, (q, e))). (g, h, (before g).0 q, e),
          λ (g, h, f, e). (g, (h, ((before g).1 f, e))),
        )

    pub shown_numbers : (out : Result Place Refusal) → ShownSays session i l out
        → ShownNumbers session i l out
    shown_numbers out says =
        record {
          fault = Iff.trans (answer_iff says (Err why.Fault)) shown_fault;
          carrier = Iff.trans (answer_iff says (Err why.Carrier)) shown_carrier;
          place = Iff.trans (answer_iff says (Ok at))
              (Iff.trans (shown_given at)
              (λ (s, h, f, e). (s, h, f), λ (s, h, f). (s, h, f, refl)));
        }
