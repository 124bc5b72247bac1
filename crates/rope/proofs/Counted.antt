-- The forces one by one: what the sum and the test make of the next.
use Prim.Native.Nat.{ℕ, ◌+◌, ◌≤◌, ◌<◌}
use mathlib.Core.Path.{◌≡◌, ap, ◌∙◌}
use mathlib.Core.Bool.{true, false}
use mathlib.Core.List.{List, ◌∷◌}
use native.Mathlib.Numerals.{add-one}
use lib.ListN.{length, drop, get_or, drop_of_length-le}
use lib.Seq.{drop-cons}
use lib.Ieee.{Float, binary64, add}
use Rattle.rope.specs.declared.Point.{Point}
use Rattle.rope.specs.declared.Force.{Force}
use Rattle.rope.specs.Forces.{force_on, sum_from, finite_force, finite_forces}

module _ (forces : List Force) (i : ℕ) (z : Force) (h : i < length forces) where
  next : drop i forces ≡ get_or forces i z ∷ drop (i + 1) forces
  next = rw (add-one, drop-cons forces i z)

  pub sum_next : (point : Point) (sum : Float)
      → sum_from point sum (drop i forces)
      ≡ sum_from point (add binary64 sum (force_on point (get_or forces i z))) (drop (i + 1) forces)
  unfolding sum_from
  sum_next point sum = ap (sum_from point sum) next

  pub next_fails : finite_force (get_or forces i z) ≡ false → finite_forces (drop i forces) ≡ false
  unfolding finite_forces
  next_fails e = ap finite_forces next ∙ rw e

  pub next_holds : finite_force (get_or forces i z) ≡ true
      → finite_forces (drop i forces) ≡ finite_forces (drop (i + 1) forces)
  unfolding finite_forces
  next_holds e = ap finite_forces next ∙ rw e

-- Past the last there is none.
pub no_more : (forces : List Force) (i : ℕ) → length forces ≤ i
    → finite_forces (drop i forces) ≡ true
unfolding finite_forces
no_more forces i h = rw (drop_of_length-le forces h)

pub sum_done : (point : Point) (sum : Float) (forces : List Force) (i : ℕ) → length forces ≤ i
    → sum_from point sum (drop i forces) ≡ sum
unfolding sum_from
sum_done point sum forces i h = rw (drop_of_length-le forces h)
