-- Document 01, 'Levers', and part 2 of 'One step': the pushes, the cut and the brake.
use Rattle.std.specs.Prelude.{ℕ, zero, suc, cond, List, [], ◌∷◌, eqb, ℤ, pos, ◌+ℤ◌, ◌-ℤ◌, get_or}
use Rattle.std.specs.Int.Signed.{lt_z}
use Rattle.yard.specs.declared.levers.Axis.{Axis}
use Rattle.yard.specs.declared.levers.Axis.TheVariants.{X, Y}
use Rattle.yard.specs.declared.levers.Push.{Push}
use Rattle.yard.specs.Ranges.{minus}

-- The one of two numbers that is along the axis.
abbrev pub along : Axis → ℤ → ℤ → ℤ
along X x y = x
along Y x y = y

-- A pair of pushes: along x, along y.
abbrev pub push : ℤ → ℤ → Push
push x y = record { x = x; y = y }

-- 'The lever table gives one pair of pushes for each position', 0 to 8.
abbrev pub pushes : List Push
pushes =
    push (pos 0) (pos 0)
    ∷ push (pos 12) (pos 0)
    ∷ push (pos 8) (pos 8)
    ∷ push (pos 0) (pos 12)
    ∷ push (minus 8) (pos 8)
    ∷ push (minus 12) (pos 0)
    ∷ push (minus 8) (minus 8)
    ∷ push (pos 0) (minus 12)
    ∷ push (pos 8) (minus 8)
    ∷ []

-- The pair of a lever position.
unfoldable pub push_of : ℕ → Push
push_of lever = get_or pushes lever (push (pos 0) (pos 0))

-- 'cut to the range -200 to 200'
unfoldable pub cut_speed : ℤ → ℤ
cut_speed speed =
    cond (lt_z speed (minus 200)) (minus 200)
    (cond (lt_z (pos 200) speed) (pos 200) speed)

-- What the brake takes off a speed in a step (02 §2).
abbrev pub brake_units : ℕ
brake_units = 10

-- 'The brake takes 10 units off each speed per step, toward zero, and never past it' (02 §2).
unfoldable pub brake : ℤ → ℤ
brake speed =
    cond (lt_z (pos brake_units) speed) (speed -ℤ pos brake_units)
    (cond (lt_z speed (minus brake_units)) (speed +ℤ pos brake_units) (pos 0))

-- A speed after so many steps of braking.
unfoldable pub braked : ℕ → ℤ → ℤ
braked zero speed = speed
braked (suc steps) speed = brake (braked steps speed)

-- Part 2: 'for levers 0 to 8 old speed plus push, then cut ..; for lever 9 as above.'
unfoldable pub new_speed : Axis → ℕ → ℤ → ℤ
new_speed axis lever old =
    cond (eqb lever 9) (brake old)
    (cut_speed (old +ℤ along axis (push_of lever).x (push_of lever).y))
