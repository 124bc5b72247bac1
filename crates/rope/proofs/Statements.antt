-- The statements of specs/Statements.antt, proved.
use Prim.Native.Nat.{ℕ}
use mathlib.Core.Path.{◌≡◌, refl, sym, ap, ◌∙◌}
use mathlib.Core.Logic.Iff
use mathlib.Core.Logic.{◌↔◌, ⊎_elim}
use mathlib.Core.Bool.{true, false}
use mathlib.Core.List.{List}
use lib.ListN.{take}
use lib.IntN.{pos, negsuc}
use lib.Ieee.{Float, fin, binary64, round, of_bits, to_bits, add, sub, mul}
use lib.Ieee.{neg, fits}
use lib.Ieee.Bits.{is_true, of_bits-fits}
use Rattle.std.specs.Float.{float_is_finite}
use Rattle.std.specs.Prelude.{Result, Ok, Err}
use Rattle.basis.specs.Order.{Answer, accepted, answer}
use Rattle.basis.specs.Refusal.{answer_of}
use Rattle.basis.specs.declared.Refusal.{Refusal}
use Rattle.basis.specs.declared.Refusal.TheVariants as why
use Rattle.basis.proofs.Order.{one_outcome, apart, held, given}
use Rattle.basis.proofs.Refusals.{one_answer}
use Rattle.basis.proofs.Tests.{and_right}
use Rattle.rope.specs.declared.Point.{Point}
use Rattle.rope.specs.declared.Force.{Force}
use Rattle.rope.specs.Forces.{plus_zero, force_on, sum_from, finite_force, finite_forces}
use Rattle.rope.specs.Step.{over, speed_by, moved_by, finite_point, moved_under, rope_order}
use Rattle.rope.specs.Facts.{Rule18}
use Rattle.rope.specs.Says.{StepCountedSays}
use Rattle.rope.specs.Statements.{Determined, StepNumbers, NoForces, RopeEnds}
use Rattle.rope.specs.Statements.{point_at, Examples}
use Rattle.rope.proofs.Own.{kept, keeps_value, from_minus_zero}
use Rattle.rope.proofs.Steps.{same_counted}
use Rattle.rope.proofs.Rule18.{refused_when, settled}

pub determined : Determined
determined =
    record {
      step = λ point forces. one_outcome one_answer;
      counted = λ point forces count. one_outcome one_answer;
    }

module _ (point : Point) (forces : List Force) (count : ℕ) (out : Result Point Refusal)
    (says : StepCountedSays point forces count out) where
  -- An outcome is given where the order comes to what it stands for.
  is_given : (a : Result Point Refusal) → (out ≡ a) ↔ (answer (rope_order point forces count) ≡ answer_of a)
  is_given a = (λ e. sym says ∙ ap answer_of e, λ e. one_answer out a (says ∙ e))

  pub numbers : StepNumbers point forces count out
  numbers =
      record {
        rope = Iff.trans (is_given (Err why.Rope)) (refused_when point forces count);
        moved = Iff.trans (is_given (Ok (moved_under point (take count forces)))) else;
      }
    where
      else : (answer (rope_order point forces count)
          ≡ accepted (moved_under point (take count forces)))
          ↔ (Rule18 point forces count → ⊥)
      else = (
        λ e h. apart (sym ((refused_when point forces count).1 h) ∙ e),
        λ no-rule.
            ⊎_elim (λ e. absurd (no-rule ((refused_when point forces count).0 e))) (λ e. e)
            (settled point forces count),
      )

-- Nothing is added to the speed.
no_push : mul binary64 plus_zero (over 2 100) ≡ plus_zero
unfolding mul round
no_push = refl

module _ (point : Point) (forces : List Force) (next : Point)
    (says : StepCountedSays point forces 0 (Ok next)) (fits-it : fits binary64 point.speed ≡ true)
  where
    -- What the acceptance says of the point, and of the point that is given.
    told : (float_is_finite point.speed ≡ true) × (next.speed ≡ add binary64 point.speed plus_zero)
    unfolding rope_order finite_point moved_by speed_by sum_from
    told =
        let (few, after-count) = held _ _ _ (sym says) in
        let (holds, after-point) = held _ _ _ after-count in
        let (forces_hold, after-forces) = held _ _ _ after-point in
        let (result-holds, end) = held _ _ _ after-forces in (
          and_right (float_is_finite point.place) (float_is_finite point.speed) holds,
          ap (λ (p : Point). p.speed) (sym (given _ end))
              ∙ ap (add binary64 point.speed) no_push,
        )

    pub no_forces : NoForces point next
    no_forces =
        let (holds, is) = told in
        record {
          value = rw is (keeps_value point.speed fits-it holds);
          same = λ other. is ∙ kept point.speed fits-it holds other;
          zero = λ e. is ∙ ap (λ x. add binary64 x plus_zero) e ∙ from_minus_zero;
        }

pub rope_ends : RopeEnds
rope_ends =
    record {
      numbers = numbers;
      f64 = λ bits. is_true _ (of_bits-fits binary64 bits);
      no_forces = no_forces;
      counted =
          λ point forces others count out same says.
          says ∙ same_counted point forces others count same;
    }

-- A point by other names of its numbers.
renamed : {p q x y : Float} → p ≡ x → q ≡ y
    → ◌≡◌ {A = Answer Point} (accepted (point_at p q)) (accepted (point_at x y))
renamed e f = cc

-- Each side is worked out to the number that it is.
is_tick : over 2 100 ≡ fin false 5764607523034235 (negsuc 57)
unfolding round
is_tick = refl

is_one : over 1 1 ≡ fin false 1 (pos 0)
unfolding round
is_one = refl

is_spring_place : over 10016 10000 ≡ fin false 4510805386774289 (negsuc 51)
unfolding round
is_spring_place = refl

is_spring_speed : over 8 100 ≡ fin false 5764607523034235 (negsuc 55)
unfolding round
is_spring_speed = refl

is_drag_place : over 396 10000 ≡ fin false 5706961447803893 (negsuc 56)
unfolding round
is_drag_place = refl

is_drag_speed : over 198 100 ≡ fin false 4458563631096791 (negsuc 50)
unfolding round
is_drag_speed = refl

pub examples : Examples
unfolding rope_order finite_point moved_by speed_by sum_from force_on finite_force finite_forces answer
    float_is_finite round of_bits to_bits add sub mul neg
examples =
    record {
      pull = renamed is_tick is_one ∙ refl;
      spring = renamed is_spring_place is_spring_speed ∙ refl;
      drag = renamed is_drag_place is_drag_speed ∙ refl;
      still = renamed is_one refl ∙ refl;
      start = refl;
      in_order = refl;
      overflow = refl;
      infinite_times_zero = refl;
      tick = refl;
    }
