-- What is claimed of the shown place. proofs/Statements.antt proves each record whole.
-- `SFits w32 z` says that z is an i32, `Fits w32 n` that n is a u32.
use Rattle.std.specs.Prelude.{ℕ, ◌<◌, ◌≡◌, true, false, Result, ℤ, pos, neg_ℤ, Float}
use Rattle.std.specs.Float.{binary64}
use Rattle.std.specs.Float.Ieee.{to_signed, to_bits, is_nan}
use Rattle.std.specs.Int.{w32}
use Rattle.std.proofs.Common.{Fits, SFits}
use Rattle.basis.specs.Numbers.{step_length}
use Rattle.basis.specs.Order.{Answer, Determines}
use Rattle.basis.specs.Refusal.{answer_of}
use Rattle.basis.specs.declared.Refusal.{Refusal}
use Rattle.shown.specs.Blend.{whole, blend_of, is_between}
use Rattle.shown.specs.Says.{BlendSays, PlaceSays}
use Rattle.shown.specs.declared.Place.{Place}

-- 'any two outcomes allowed by it coincide', for the contract of each public entry.
pub record Determined : Type 0 where
  -- `blend`
  pub blend : (p c : ℤ) (remainder : ℕ) → Determines (BlendSays p c remainder)
  -- `Place::shown`
  pub shown : (px py cx cy : ℤ) (remainder : ℕ) → Determines (PlaceSays px py cx cy remainder)
  -- No two answers stand for the same place or number.
  pub answer : (this : Answer Place)
      → Determines (λ (out : Result Place Refusal). answer_of out ≡ this)

-- One coordinate, shown with this remainder. Floats are equal bit for bit: the sign of a zero
-- counts.
pub record Between (remainder : ℕ) (p c : ℤ) (shown : Float) : Type 0 where
  -- 'It lies between p and c, ends allowed;
  pub within : is_between p c shown ≡ true
  -- it equals p when the remainder is 0
  pub start : remainder ≡ 0 → shown ≡ whole p
  -- or p equals c'.
  pub rest : p ≡ c → shown ≡ whole p

-- The shown place of a carrier.
pub record ShownPlace : Type 0 where
  -- Every two i32, every u32 step length and every remainder below it (document 02, §13).
  pub coordinate : (length : ℕ) (p c : ℤ) (remainder : ℕ) → Fits w32 length → remainder < length
      → SFits w32 p → SFits w32 c → Between remainder p c (blend_of length p c remainder)
  -- 'or p equals c', whatever u32 the remainder is.
  pub rest : (length : ℕ) (p : ℤ) (remainder : ℕ) → 0 < length → Fits w32 length
      → Fits w32 remainder → SFits w32 p → blend_of length p p remainder ≡ whole p
  -- An i32 isn't rounded to be an f64: as an i32 again it is itself.
  pub exact : (z : ℤ) → SFits w32 z → to_signed 31 (whole z) ≡ z
  -- 'It is exactly this bit pattern': whatever is given, no NaN, which has more than one.
  pub pattern : (p c : ℤ) (remainder : ℕ) → SFits w32 p → SFits w32 c → Fits w32 remainder
      → is_nan (blend_of step_length p c remainder) ≡ false

-- Cases of the definitions, by computation.
pub record Examples : Type 0 where
  -- 'p 12, c 36, remainder 10,000: shown 24.0.'
  pub halfway : blend_of step_length (pos 12) (pos 36) 10000 ≡ whole (pos 24)
  -- Neither 11 nor 37 lies between 12 and 36.
  pub below : is_between (pos 12) (pos 36) (whole (pos 11)) ≡ false
  pub above : is_between (pos 12) (pos 36) (whole (pos 37)) ≡ false
  -- From 0 to 1, at remainder 1: the f64 nearest to 0.00005.
  pub rounded : to_bits binary64 (blend_of step_length (pos 0) (pos 1) 1) ≡ 0x3f0a_36e2_eb1c_432d
  -- From 0 to -5, at remainder 0: 0.0 and not -0.0.
  pub zero : to_bits binary64 (blend_of step_length (pos 0) (neg_ℤ (pos 5)) 0) ≡ 0
