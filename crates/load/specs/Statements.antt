-- What is claimed of the hanging load. proofs/Statements.antt proves each record whole.
use Rattle.std.specs.Prelude.{ℕ, ◌+◌, ◌*◌, ◌≡◌, ◌↔◌, Result, Ok, Err, ℤ, pos, ◌+ℤ◌, ◌-ℤ◌, ◌*ℤ◌, ◌≤ℤ◌, ◌<ℤ◌}
use Rattle.basis.specs.Order.{Determines}
use Rattle.basis.specs.Refusal.{number_of}
use Rattle.basis.specs.declared.Refusal.{Refusal}
use Rattle.basis.specs.declared.Refusal.TheVariants as why
use Rattle.load.specs.Facts.{OutOfRange}
use Rattle.load.specs.Step.{D, quotient, moved}
use Rattle.load.specs.Says.{StepSays}
use Rattle.load.specs.Energy.{energy, remainder, Run}
use Rattle.load.specs.declared.Load.{Load}

-- 'any two outcomes allowed by it coincide', for the contract of the public entry.
pub record Determined : Type 0 where
  -- `Load::step`
  pub step : (load : Load) (p : ℕ) → Determines (StepSays load p)

-- 'p·x/D rounded down', q, and 'the remainder of p·x by D (0 to 1,023)'.
pub record RoundedDown (p : ℕ) (x : ℤ) : Type 0 where
  -- D·q ≤ p·x < D·(q + 1)
  pub low : (pos D *ℤ quotient p x) ≤ℤ (pos p *ℤ x)
  pub high : (pos p *ℤ x) <ℤ (pos D *ℤ (quotient p x +ℤ pos 1))
  -- No other whole number is such.
  pub only : (q : ℤ) → (pos D *ℤ q) ≤ℤ (pos p *ℤ x) → (pos p *ℤ x) <ℤ (pos D *ℤ (q +ℤ pos 1))
      → q ≡ quotient p x
  pub remainder : (pos 0 ≤ℤ remainder p x) × (remainder p x ≤ℤ pos 1023)

-- A step, number by number.
pub record StepNumbers (load : Load) (p : ℕ) (out : Result Load Refusal) : Type 0 where
  -- 17: 'A stiffness or state out of range, or a step that would leave the range'
  pub refused : (out ≡ Err why.Load) ↔ OutOfRange p load (moved p load)
  -- Else it is moved by the step.
  pub moved : (after : Load) → (out ≡ Ok after)
      ↔ ((OutOfRange p load (moved p load) → ⊥) × (after ≡ moved p load))
  -- No number but 17 refuses.
  pub only : (refusal : Refusal) → out ≡ Err refusal → number_of refusal ≡ 17

-- What an unrefused step does to the energy.
pub record Change (p : ℕ) (before after : Load) : Type 0 where
  -- 'With r the remainder .., D times the change of energy in a step is exactly
  -- r·((2·D - p)·v' + p·x') - r·r.'
  pub exact : let r : ℤ = remainder p before.x in
      pos D *ℤ (energy p after -ℤ energy p before)
      ≡ r *ℤ ((pos 2 *ℤ pos D -ℤ pos p) *ℤ after.v +ℤ pos p *ℤ after.x) -ℤ r *ℤ r
  -- The same, shorter: the change is r·(v + v').
  pub shorter : energy p after -ℤ energy p before
      ≡ remainder p before.x *ℤ (before.v +ℤ after.v)

-- 'the energy differs from that at the beginning by at most n·D·(2·M + 1)': neither upward nor
-- downward by more.
pub record Drift (p m n : ℕ) (first last : Load) : Type 0 where
  pub up : (energy p last -ℤ energy p first) ≤ℤ pos (n * D * (2 * m + 1))
  pub down : (energy p first -ℤ energy p last) ≤ℤ pos (n * D * (2 * m + 1))

-- Document 02, §7, of whatever the contract allows.
pub record HangingLoad : Type 0 where
  pub rounded : (p : ℕ) (x : ℤ) → RoundedDown p x
  -- 'one step is v' = v minus p·x/D rounded down,
  pub speed : (p : ℕ) (load : Load) → (moved p load).v ≡ load.v -ℤ quotient p load.x
  -- then x' = x + v''
  pub offset : (p : ℕ) (load : Load) → (moved p load).x ≡ load.x +ℤ (moved p load).v
  pub numbers : (load : Load) (p : ℕ) (out : Result Load Refusal) → StepSays load p out
      → StepNumbers load p out
  pub change : (before : Load) (p : ℕ) (after : Load) → StepSays before p (Ok after)
      → Change p before after
  pub drift : (p m n : ℕ) (first last : Load) → Run p m n first last → Drift p m n first last
