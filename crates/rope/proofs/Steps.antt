-- The ways out of a step.
use Prim.Native.Nat.{ℕ, ◌≤◌, ◌<◌}
use native.Mathlib.Nat.{le_refl}
use mathlib.Core.Path.{◌≡◌, refl, ap, ◌∙◌}
use mathlib.Core.Bool.{Bool, true, false}
use mathlib.Core.List.{List}
use lib.Dec.{leb}
use lib.ListN.{length, take}
use lib.Seq.{take_all, take-take, length-take-le}
use borrow.Author.Tests.{le-leb, lt-leb}
use Rattle.basis.specs.Numbers.{ROPE}
use Rattle.basis.specs.Order.{answer, refused, accepted}
use Rattle.basis.proofs.Order.{passes, fails, gives}
use Rattle.rope.specs.declared.Point.{Point}
use Rattle.rope.specs.declared.Force.{Force}
use Rattle.rope.specs.Forces.{finite_forces}
use Rattle.rope.proofs.Counted.{sum_next, next_fails, next_holds, no_more, sum_done}
use Rattle.rope.proofs.Numbers.{zero_bits}
use Rattle.rope.specs.Step.{finite_point, moved_under, most_forces, rope_order}

pub too_many : (point : Point) (forces : List Force) (count : ℕ) → most_forces < count
    → answer (rope_order point forces count) ≡ refused ROPE
unfolding rope_order
too_many point forces count h = fails _ _ (lt-leb _ _ h)

-- Where each force counts.
module _ (point : Point) (forces : List Force) where
  all : take (length forces) forces ≡ forces
  all = take_all (length forces) forces (le_refl _)

  -- The tests before it have the same number.
  pub bad_point : finite_point point ≡ false
      → answer (rope_order point forces (length forces)) ≡ refused ROPE
  unfolding rope_order
  bad_point e = go (leb (length forces) most_forces) refl
    where
      go : (t : Bool) → leb (length forces) most_forces ≡ t
          → answer (rope_order point forces (length forces)) ≡ refused ROPE
      go true few = passes _ _ few ∙ fails _ _ e
      go false many = fails _ _ many

  module _ (few : length forces ≤ most_forces) (p : finite_point point ≡ true) where
    pub bad_force : finite_forces forces ≡ false
        → answer (rope_order point forces (length forces)) ≡ refused ROPE
    unfolding rope_order
    bad_force e =
        passes _ _ (le-leb _ _ few) ∙ passes _ _ p ∙ fails _ _ (ap finite_forces all ∙ e)

    module _ (f : finite_forces forces ≡ true) where
      pub bad_result : finite_point (moved_under point forces) ≡ false
          → answer (rope_order point forces (length forces)) ≡ refused ROPE
      unfolding rope_order
      bad_result e =
          passes _ _ (le-leb _ _ few) ∙ passes _ _ p ∙ passes _ _ (ap finite_forces all ∙ f)
          ∙ fails _ _ (rw all e)

      pub moves : finite_point (moved_under point forces) ≡ true
          → answer (rope_order point forces (length forces)) ≡ accepted (moved_under point forces)
      unfolding rope_order
      moves e =
          passes _ _ (le-leb _ _ few) ∙ passes _ _ p ∙ passes _ _ (ap finite_forces all ∙ f)
          ∙ passes _ _ (rw all e) ∙ gives _ ∙ rw all

-- What a step's answers are shown by.
pub ruleset ways = (zero_bits, too_many, bad_point, bad_force, bad_result, moves, sum_next, next_fails, next_holds, no_more, sum_done)

-- What lies past the count plays no part.
pub same_counted : (point : Point) (forces others : List Force) (count : ℕ)
    → take count forces ≡ take count others
    → answer (rope_order point forces count) ≡ answer (rope_order point others count)
unfolding rope_order
same_counted point forces others count same = rw same

-- So a step of the counted forces alone is the step.
pub first_counted : (point : Point) (forces : List Force) (count : ℕ) → count ≤ length forces
    → answer (rope_order point (take count forces) (length (take count forces)))
    ≡ answer (rope_order point forces count)
first_counted point forces count h =
    rw (length-take-le count forces h)
    (same_counted point (take count forces) forces count
    (take-take count count forces (le_refl count)))

pub ruleset counting = (too_many, first_counted)
