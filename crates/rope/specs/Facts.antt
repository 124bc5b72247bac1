-- Document 02, §8: what refuses a step, in plain facts. A float is `nan`, an infinity (`inf true`
-- is the negative one), or finite.
use Rattle.std.specs.Prelude.{ℕ, ◌<◌, ◌≡◌, ◌⊎◌, true, false, take, Float}
use mathlib.Core.List.{List, Memᴰ}
use Rattle.std.specs.Float.{nan, inf}
use Rattle.rope.specs.declared.Point.{Point}
use Rattle.rope.specs.declared.Force.{Force}
use Rattle.rope.specs.declared.Force.TheVariants.{Pull, Spring, Drag}
use Rattle.rope.specs.Step.{moved_under}

-- A number 'that isn't finite'.
abbrev pub NotFinite : Float → Type 0
NotFinite x = (x ≡ nan) ⊎ (x ≡ inf false) ⊎ (x ≡ inf true)

-- Of a point: its place or its speed.
abbrev pub PointNotFinite : Point → Type 0
PointNotFinite point = NotFinite point.place ⊎ NotFinite point.speed

-- Of a force: one of its numbers.
abbrev pub ForceNotFinite : Force → Type 0
ForceNotFinite (Pull size) = NotFinite size
ForceNotFinite (Spring stiffness rest) = NotFinite stiffness ⊎ NotFinite rest
ForceNotFinite (Drag factor) = NotFinite factor

-- 'More than eight forces, a number of the point or of a counted force that isn't finite, or a
-- result that isn't finite (after the whole sum and move)'.
abbrev pub Rule18 : Point → List Force → ℕ → Type 0
Rule18 point forces count =
    (8 < count)
    ⊎ PointNotFinite point
    ⊎ ((force : Force) × Memᴰ force (take count forces) × ForceNotFinite force)
    ⊎ PointNotFinite (moved_under point (take count forces))
