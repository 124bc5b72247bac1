-- `wuthracomb_rope_step`: a rope end as two f64, its forces as kinds and numbers (02 §8).
use Rattle.std.specs.Prelude.{ℕ, ◌*◌, ◌<◌, ◌≡◌, Bool, true, cond, ◌&&◌, List, [], ◌∷◌, leb, eqb}
use Rattle.std.specs.Prelude.{Float, length, drop, get_or, Result, Ok, Err, MatchResult}
use Rattle.std.specs.Float.{nan}
use Rattle.basis.specs.Numbers.{ROOM, ROPE}
use Rattle.basis.specs.Order.{Answer, refused, accepted, Order, check, give, and_then}
use Rattle.basis.specs.Refusal.{number_of}
use Rattle.basis.specs.declared.Refusal.{Refusal}
use Rattle.basis.specs.declared.Refusal.TheVariants as why
use Rattle.rope.specs.Step.{rope_order}
use Rattle.rope.specs.declared.Point.{Point}
use Rattle.rope.specs.declared.Force.{Force}
use Rattle.rope.specs.declared.Force.TheVariants.{Pull, Spring, Drag}
use Rattle.station.specs.declared.rope_ends.Kind.{Kind}
use Rattle.station.specs.declared.rope_ends.Kind.TheVariants as kind

-- The kinds of forces: 0 a pull, 1 a spring, 2 a drag.
unfoldable pub kinds_hold : List ℕ → Bool
kinds_hold [] = true
kinds_hold (kind ∷ kinds) = leb kind 2 && kinds_hold kinds

-- A force by its kind and two numbers: a pull's size, a spring's stiffness and rest place, a drag's
-- factor. A pull and a drag don't use the second.
unfoldable pub force_of : ℕ → Float → Float → Force
force_of kind first second =
    cond (eqb kind 0) (Pull first)
    (cond (eqb kind 1) (Spring first second)
    (Drag first))

-- The forces of these kinds, two numbers to a force.
unfoldable pub forces_of : List ℕ → List Float → List Force
forces_of [] numbers = []
forces_of (kind ∷ kinds) numbers =
    force_of kind (get_or numbers 0 nan) (get_or numbers 1 nan) ∷ forces_of kinds (drop 2 numbers)

-- The number of a kind, as the code has it.
abbrev pub number_of_kind : Kind → ℕ
number_of_kind kind.Pull = 0
number_of_kind kind.Spring = 1
number_of_kind kind.Drag = 2

-- A kind is read from its number; 18 for any number above 2.
abbrev pub KindOf : ℕ → Result Kind Refusal → Type 0
KindOf number out =
    MatchResult out (λ kind. number_of_kind kind ≡ number)
    (λ refusal. (2 < number) × (refusal ≡ why.Rope))

-- The forces of these kinds, where each is one.
unfoldable pub forces_order : List ℕ → List Float → Order (List Force)
forces_order kinds numbers = check (kinds_hold kinds) ROPE (give (forces_of kinds numbers))

-- What the code answers that puts forces into a slice, and what then stands there.
abbrev pub put_of : Result (Unit {0}) Refusal → List Force → Answer (List Force)
put_of (Ok done) forces = accepted forces
put_of (Err refusal) forces = refused (number_of refusal)

-- The rope end in two f64: its place and its speed.
abbrev pub point_of : List Float → Point
point_of point = record { place = get_or point 0 nan; speed = get_or point 1 nan }

-- `wuthracomb_rope_step`: two numbers a force, a point of two, kinds up to 2; then as `rope` does.
unfoldable pub rope_face : List ℕ → List Float → List Float → Order (List Float)
rope_face kinds numbers point =
    check (eqb (length numbers) (2 * length kinds)) ROOM
    (check (eqb (length point) 2) ROOM
    (check (kinds_hold kinds) ROPE
    (and_then (rope_order (point_of point) (forces_of kinds numbers) (length kinds))
    (λ next. give (next.place ∷ next.speed ∷ [])))))
