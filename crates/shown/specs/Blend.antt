-- Document 01, 'Digest and shown place': one shown coordinate. The operations are those of IEEE 754
-- binary64 (lib.Ieee): each result is rounded to the nearest f64, and a zero keeps its sign.
use Rattle.std.specs.Prelude.{ℕ, Bool, ◌&&◌, ◌||◌, ℤ, pos, Float}
use Rattle.std.specs.Float.{binary64}
use Rattle.std.specs.Float.Ieee.{of_int, add, sub, mul, div, le}

-- A whole number as an f64.
abbrev pub whole : ℤ → Float
whole z = of_int binary64 z

-- 'alpha is remainder divided by 20000.0', here by the length of any step.
abbrev pub alpha_of : ℕ → ℕ → Float
alpha_of length remainder = div binary64 (whole (pos remainder)) (whole (pos length))

-- 'Each coordinate is p + (c - p)·alpha, rounded after each operation in that order, where c is the
-- present and p the previous whole-number coordinate'.
unfoldable pub blend_of : ℕ → ℤ → ℤ → ℕ → Float
blend_of length p c remainder =
    add binary64 (whole p)
    (mul binary64 (sub binary64 (whole c) (whole p)) (alpha_of length remainder))

-- At least a and at most b, in the order of IEEE 754.
abbrev pub is_within : ℤ → ℤ → Float → Bool
is_within a b x = le (whole a) x && le x (whole b)

-- 'It lies between p and c, ends allowed'.
abbrev pub is_between : ℤ → ℤ → Float → Bool
is_between p c x = is_within p c x || is_within c p x
