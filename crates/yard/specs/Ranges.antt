-- Whole numbers: minus, ranges, and a test of every number below a bound.
use Rattle.std.specs.Prelude.{ℕ, zero, suc, Bool, true, ◌&&◌, leb, ℤ, pos, neg_ℤ}
use Rattle.std.specs.Int.Signed.{le_z}

-- Minus n.
abbrev pub minus : ℕ → ℤ
minus n = neg_ℤ (pos n)

-- From low to high, ends allowed.
unfoldable pub between : ℤ → ℤ → ℤ → Bool
between low z high = le_z low z && le_z z high

-- From 1 to most.
abbrev pub from_one : ℕ → ℕ → Bool
from_one n most = leb 1 n && leb n most

-- Every number below n passes the test.
unfoldable pub every : ℕ → (ℕ → Bool) → Bool
every zero test = true
every (suc n) test = every n test && test n
