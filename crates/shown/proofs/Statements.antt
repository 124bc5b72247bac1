-- The statements of specs/Statements.antt, proved.
use Prim.Native.Nat.{ℕ, ◌+◌, ◌<◌, ◌≤◌}
use native.Mathlib.Omega.{arith}
use native.Mathlib.Nat.{le_of_lt}
use mathlib.Core.Path.{◌≡◌, refl}
use mathlib.Core.Bool.{false}
use lib.IntN.{ℤ, pos, negsuc, nat_abs}
use lib.Signed.{nat_abs-le}
use lib.Dec.{le→leb, lt→ltb}
use lib.Ieee.{binary64, of_int, add, sub, mul, div, le, to_bits, in_float, to_signed, is_nan}
use lib.Ieee.Back.{positive_back, negative_back}
use mir.Syntax.{w32}
use mir.Val.{Fits, SFits}
use Rattle.basis.specs.Numbers.{step_length}
use Rattle.basis.proofs.Order.{one_outcome, one_result}
use Rattle.basis.proofs.Refusals.{one_answer}
use Rattle.shown.specs.Blend.{whole, blend_of}
use Rattle.shown.specs.Statements.{Determined, Between, ShownPlace, Examples}
use Rattle.shown.proofs.Between.{most, start, rest, between, no_nan}

pub determined : Determined
determined = record {
  blend = λ p c remainder. one_result;
  shown = λ px py cx cy remainder. one_result;
  answer = λ this. one_outcome one_answer;
}

unrounded : (z : ℤ) → SFits w32 z → to_signed 31 (whole z) ≡ z
unfolding in_float
unrounded (pos n) h = (positive_back binary64 31 n (le→leb n most (omega arith)) h.sfits).1
unrounded (negsuc n) h = (negative_back binary64 31 n (lt→ltb n most (omega arith)) h.sfits).1

pub shown_place : ShownPlace
shown_place =
    record { coordinate = coordinate; rest = still; exact = unrounded; pattern = pattern }
  where
    -- The size of a step between two i32.
    room : (p c : ℤ) → SFits w32 p → SFits w32 c → nat_abs p + nat_abs c ≤ 4294967296
    room p c P C = omega (arith, nat_abs-le p P.sfits, nat_abs-le c C.sfits)

    coordinate : (length : ℕ) (p c : ℤ) (remainder : ℕ) → Fits w32 length → remainder < length
        → SFits w32 p → SFits w32 c → Between remainder p c (blend_of length p c remainder)
    coordinate length p c remainder fits h P C =
        let size : nat_abs p + nat_abs c ≤ most = omega (arith, room p c P C) in
        let short : length ≤ most = omega arith in
        let L : 0 < length = omega arith in
        record {
          within = between length p c L short size remainder (le_of_lt h);
          start = λ e. rw e (start length p c L short size);
          rest = rest length p c L short size remainder (omega arith);
        }

    still : (length : ℕ) (p : ℤ) (remainder : ℕ) → 0 < length → Fits w32 length
        → Fits w32 remainder → SFits w32 p → blend_of length p p remainder ≡ whole p
    still length p remainder L fits h P =
        rest length p p L (omega arith) (omega (arith, room p p P P)) remainder (omega arith) refl

    -- Every u32 is at most 214,749 lengths of 20,000.
    pattern : (p c : ℤ) (remainder : ℕ) → SFits w32 p → SFits w32 c → Fits w32 remainder
        → is_nan (blend_of step_length p c remainder) ≡ false
    pattern p c remainder P C h =
        let size : nat_abs p + nat_abs c ≤ 4294967296 = room p c P C in
        no_nan step_length p c (omega arith) (omega arith) (omega arith)
        remainder 214749 (omega arith) (omega arith) (omega arith) (omega arith)

pub examples : Examples
unfolding blend_of of_int add sub mul div le to_bits
examples =
    record { halfway = refl; below = refl; above = refl; rounded = refl; zero = refl }
