-- Document 02, §7, 'The hanging load': one step, and when it is refused.
use Rattle.std.specs.Prelude.{ℕ, Bool, ◌&&◌, leb, ℤ, pos, nat_abs, ◌+ℤ◌, ◌-ℤ◌, ◌*ℤ◌}
use Rattle.std.specs.Int.Signed.{shr_z}
use Rattle.basis.specs.Numbers.{LOAD}
use Rattle.basis.specs.Order.{Order, check, give}
use Rattle.load.specs.declared.Load.{Load}

-- 'With D = 1,024'
abbrev pub D : ℕ
D = 1024

-- 'whole numbers within 32,767 either way'
unfoldable pub within : ℤ → Bool
within z = leb (nat_abs z) 32767

-- 'offset x, speed v', both in that range.
unfoldable pub in_range : Load → Bool
in_range load = within load.x && within load.v

-- 'a stiffness p from 1 to 1,024'
abbrev pub is_stiffness : ℕ → Bool
is_stiffness p = leb 1 p && leb p 1024

-- 'p·x/D rounded down' (`shr_z z m` is z/m rounded down, for z of either sign).
unfoldable pub quotient : ℕ → ℤ → ℤ
quotient p x = shr_z (pos p *ℤ x) D

-- 'v' = v minus p·x/D rounded down'
unfoldable pub speed_after : ℕ → Load → ℤ
speed_after p load = load.v -ℤ quotient p load.x

-- 'then x' = x + v''
unfoldable pub moved : ℕ → Load → Load
moved p load = record { x = load.x +ℤ speed_after p load; v = speed_after p load }

-- 'A stiffness or state out of range, or a step that would leave the range, is refused as 17'
unfoldable pub step_order : ℕ → Load → Order Load
step_order p load =
    check (is_stiffness p) LOAD
    (check (in_range load) LOAD
    (check (in_range (moved p load)) LOAD
    (give (moved p load))))
