-- Laws of a sound clock (document 01, '*Sound* means'): from the test to the facts, and back.
use Prim.Native.Nat.{ℕ, ◌+◌, ◌-◌, ◌*◌, ◌≤◌, ◌<◌}
use mathlib.Core.Path.{◌≡◌, refl, sym}
use mathlib.Core.Logic.{◌↔◌, ◌⊎◌}
use mathlib.Core.Bool.{Bool, true, false}
use native.Mathlib.Omega.{arith}
use Rattle.basis.proofs.Tests.{says_le, says_lt, says_eq, says_three}
use Rattle.basis.specs.Numbers.{most_steps, step_length}
use Rattle.clock.specs.Clock.{sound_clock}
use Rattle.clock.specs.declared.Clock.{Clock}

-- What the three tests say, as facts.
pub record Sound (length : ℕ) (clock : Clock) : Type 0 where
  pub remainder : clock.remainder < length
  pub steps : clock.steps ≤ most_steps
  pub time : clock.last ≡ clock.first + (length * clock.steps + clock.remainder + clock.cut)

module _ {length : ℕ} {clock : Clock} where
  pub sound_says : sound_clock length clock ≡ true → Sound length clock
  unfolding sound_clock
  sound_says e =
      let h = (says_three (says_lt _ _) (says_le _ _) (says_eq _ _)).0 e in
      record { remainder = h.0; steps = h.1; time = h.2 }

  pub is_sound : Sound length clock → sound_clock length clock ≡ true
  unfolding sound_clock
  is_sound s =
      (says_three (says_lt _ _) (says_le _ _) (says_eq _ _)).1 (s.remainder, s.steps, s.time)

  pub not_sound : (Sound length clock → ⊥) → sound_clock length clock ≡ false
  not_sound broken = go (sound_clock length clock) refl
    where
      go : (test : Bool) → sound_clock length clock ≡ test → test ≡ false
      go true e = absurd (broken (sound_says e))
      go false e = refl

  -- A test that says yes exactly where the facts hold is the test of soundness.
  pub decides : (test : Bool) → (test ≡ true → Sound length clock)
      → (test ≡ false → Sound length clock → ⊥) → test ≡ sound_clock length clock
  decides true holds broken = sym (is_sound (holds refl))
  decides false holds broken = sym (not_sound (broken refl))

pub exactly_sound : (length : ℕ) (clock : Clock) → (sound_clock length clock ≡ true)
    ↔ ((clock.remainder < length)
    × (clock.steps ≤ most_steps)
    × (clock.first ≤ clock.last)
    × (clock.last - clock.first ≡ length * clock.steps + clock.remainder + clock.cut))
exactly_sound length clock =
    (λ e. let s = sound_says e in omega arith, λ w. is_sound (omega arith))

-- A limit that fails: of the remainder, of the steps, or of the last reading.
pub beyond : (clock : Clock)
    → (step_length ≤ clock.remainder) ⊎ (most_steps < clock.steps) ⊎ (clock.last < clock.first)
    → false ≡ sound_clock step_length clock
beyond clock past = sym (not_sound (λ s. omega (arith, past)))
