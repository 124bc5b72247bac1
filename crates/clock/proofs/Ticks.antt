-- Laws of the clock's numbers (document 01, 'The clock'), over any step length.
use Prim.Native.Nat.{ℕ, ◌+◌, ◌*◌, ◌-◌, ◌/◌, ◌≤◌, ◌<◌}
use mathlib.Core.Path.{◌≡◌}
use native.Mathlib.Nat.{div-add-mod, mod-lt, div-lt_iff_lt-mul, lt-mul-div-succ}
use native.Mathlib.Nat.{div-eq_of_lt, mod-eq_of_lt, sub_self, add-zero}
use native.Mathlib.Omega.{arith}
use lib.Arith.{digits_div, digits_mod}
use Rattle.basis.specs.Numbers.{most_steps}
use Rattle.clock.specs.Clock.{longest_gap, fresh, pool, due, ticked, most_due}
use Rattle.clock.specs.declared.Clock.{Clock}
use Rattle.clock.proofs.Sound.{Sound}

pub fresh_sound : (length first : ℕ) → 0 < length → Sound length (fresh first)
fresh_sound length first positive = omega arith

module _ {length : ℕ} {clock : Clock} (s : Sound length clock) where
  -- A reading that isn't refused keeps the clock sound.
  pub ticked_sound : (reading : ℕ) → clock.last ≤ reading
      → clock.steps + due length clock reading ≤ most_steps
      → Sound length (ticked length clock reading)
  unfolding ticked due
  ticked_sound reading forward within =
      record {
        remainder = mod-lt (pool clock reading) (omega (arith, s.remainder));
        steps = within;
        time = omega (arith, div-add-mod (pool clock reading) length);
      }

  -- One reading makes at most `most_due` steps.
  pub due_most : (reading : ℕ) → due length clock reading ≤ most_due length
  unfolding due
  due_most reading =
      let positive : 0 < length = omega (arith, s.remainder) in
      let full : length - 1 + longest_gap < length * (most_due length + 1) =
      lt-mul-div-succ _ positive in
      let below : due length clock reading < most_due length + 1 =
      (div-lt_iff_lt-mul positive).1 (omega (arith, s.remainder)) in
      omega arith

  -- An equal reading makes no step and leaves the clock as it was.
  equal_pool : pool clock clock.last ≡ clock.remainder
  equal_pool = omega arith

  pub equal_due : due length clock clock.last ≡ 0
  unfolding due
  equal_due = rw equal_pool (div-eq_of_lt s.remainder)

  pub equal_ticked : ticked length clock clock.last ≡ clock
  unfolding ticked
  equal_ticked =
      rw (
        equal_pool,
        mod-eq_of_lt s.remainder,
        equal_due,
        sub_self,
        add-zero clock.cut,
        add-zero clock.steps,
      )

-- `most_due` is 250,000/length, or one more.
pub most_one_more : (length : ℕ) → 0 < length → most_due length ≤ longest_gap / length + 1
most_one_more length positive =
    let full : longest_gap < length * (longest_gap / length + 1) = lt-mul-div-succ _ positive in
    let below : most_due length < longest_gap / length + 2 =
    (div-lt_iff_lt-mul positive).1 (omega arith) in
    omega arith

-- Two sound clocks with the same first and last reading and the same cut time are the same clock.
pub same_time : {length : ℕ} {a b : Clock} → Sound length a → Sound length b → a.first ≡ b.first
    → a.last ≡ b.last → a.cut ≡ b.cut → (a.steps ≡ b.steps) × (a.remainder ≡ b.remainder)
same_time {length} {a} {b} s t first last cut =
    let counted : a.steps * length + a.remainder ≡ b.steps * length + b.remainder =
    omega arith in (
      cc (digits_div a.steps s.remainder, digits_div b.steps t.remainder),
      cc (digits_mod a.steps s.remainder, digits_mod b.steps t.remainder),
    )
