-- `step_in` meets its contract.
use mathlib.Core.List.{[], ◌∷◌}
use mathlib.Core.Path.{◌≡◌, sym, ◌∙◌}
use native.Mathlib.Omega.{arith}
use borrow.Author.Rules.{rules}
use lib.ListN.{length}
use Rattle.station.proofs.Outcomes.{told_on, refused_fills, stored_fills}
use Rattle.station.proofs.Ropes.{wrong_numbers, wrong_point, too_many_kinds, not_made}
use Rattle.station.proofs.Ropes.{step_refused, step_moved, front_counts}
use Rattle.station.proofs.rope_ends.step_in.Goals as goal

pub returns-then-numbers-kinds : goal.returns-then-numbers-kinds
returns-then-numbers-kinds c =
    record { stepped = refused_fills _ (wrong_numbers _ _ _ c.if-numbers-kinds.true) }

pub returns-in_default : goal.returns-in_default
returns-in_default c =
    record {
      stepped = refused_fills _ (wrong_point _ _ _ c.if-numbers-kinds.false (λ e. omega arith));
    }

pub returns-in_default-2 : goal.returns-in_default-2
returns-in_default-2 c =
    record {
      stepped = refused_fills _ (wrong_point _ _ _ c.if-numbers-kinds.false (λ e. omega arith));
    }

pub returns-then-kinds-gt-MOST : goal.returns-then-kinds-gt-MOST
returns-then-kinds-gt-MOST c =
    record {
      stepped =
          refused_fills _
          (too_many_kinds _ _ _ c.if-numbers-kinds.false (omega arith) c.if-kinds-gt-MOST.true);
    }

pub returns-in_err-put_forces : goal.returns-in_err-put_forces
returns-in_err-put_forces c =
    record {
      stepped =
          rw (told_on _ _ c.from_residual.ensures.1)
          (refused_fills _
          (not_made _ _ _ c.if-numbers-kinds.false (omega arith)
          (sym c.in_err-put_forces.ensures.put)));
    }

pub returns-in_err-next : goal.returns-in_err-next
returns-in_err-next c =
    let forces = c.put_forces.new.forces in
    let long : length forces ≡ length c.args.kinds.now = search rules in
    record {
      stepped =
          rw (told_on _ _ c.from_residual-in_err-next.ensures.1)
          (refused_fills _
          (step_refused _ _ _ c.if-numbers-kinds.false (omega arith)
          (sym c.in_ok-put_forces.ensures.put)
          (front_counts _ forces _ _ long ∙ sym c.in_err-next.ensures.stepped)));
    }

pub returns : goal.returns
returns c =
    let two : length c.args.words.now ≡ 2 = omega arith in
    let next = c.in_ok-next.next in
    let forces = c.put_forces.new.forces in
    let long : length forces ≡ length c.args.kinds.now = search rules in
    record {
      stepped =
          stored_fills _ (next.place ∷ next.speed ∷ []) two
          (step_moved _ _ _ c.if-numbers-kinds.false two
          (sym c.in_ok-put_forces.ensures.put)
          (front_counts _ forces _ _ long ∙ sym c.in_ok-next.ensures.stepped));
    }
