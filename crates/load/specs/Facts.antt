-- Document 02, §7, in plain facts. `nat_abs z` is z without its sign.
use Rattle.std.specs.Prelude.{ℕ, ◌<◌, ◌⊎◌, nat_abs}
use Rattle.load.specs.declared.Load.{Load}

-- 'A stiffness or state out of range, or a step that would leave the range': stiffness p, the load
-- before the step, and where the step takes it.
abbrev pub OutOfRange : ℕ → Load → Load → Type 0
OutOfRange p before after =
    (p < 1)
    ⊎ (1024 < p)
    ⊎ (32767 < nat_abs before.x)
    ⊎ (32767 < nat_abs before.v)
    ⊎ (32767 < nat_abs after.x)
    ⊎ (32767 < nat_abs after.v)
