-- `step_in` meets its contract.
use mathlib.Core.List.{[], ◌∷◌}
use mathlib.Core.Path.{sym}
use native.Mathlib.Omega.{arith}
use borrow.Author.Rules.{rules}
use borrow.Author.Tests.{ne_eqb}
use lib.IntN.{pos}
use lib.ListN.{get_or, length}
use mathlib.Core.Path.{◌≡◌}
use mir.Facts.{to_z-of_z}
use mir.Syntax.{w32}
use Rattle.basis.proofs.Order.{fails}
use Rattle.basis.proofs.Signed.{got}
use Rattle.station.specs.Face.{load_step_face}
use Rattle.station.proofs.Loading.{load_refused, load_moved}
use Rattle.station.proofs.Outcomes.{told_on, refused_fills, stored_fills}
use Rattle.station.proofs.loads.step_in.Goals as goal

pub returns-in_default : goal.returns-in_default
unfolding load_step_face
returns-in_default c =
    record { stepped = refused_fills _ (fails _ _ (ne_eqb _ _ (λ e. omega arith))) }

pub returns-in_default-2 : goal.returns-in_default-2
unfolding load_step_face
returns-in_default-2 c =
    record { stepped = refused_fills _ (fails _ _ (ne_eqb _ _ (λ e. omega arith))) }

pub returns-in_err-after : goal.returns-in_err-after
returns-in_err-after c =
    let words = c.args.words.now in
    let two : length words ≡ 2 = omega arith in
    let stepped = rw (
      to_z-of_z {w = w32} {z = get_or words 0 (pos 0)} (search rules),
      to_z-of_z {w = w32} {z = get_or words 1 (pos 0)} (search rules),
    ) at c.in_err-after.ensures.stepped in
    record {
      stepped =
          rw (told_on _ _ c.from_residual.ensures.1)
          (refused_fills _ (load_refused _ _ two (sym stepped)));
    }

pub returns : goal.returns
returns c =
    let words = c.args.words.now in
    let two : length words ≡ 2 = omega arith in
    let stepped = rw (
      to_z-of_z {w = w32} {z = get_or words 0 (pos 0)} (search rules),
      to_z-of_z {w = w32} {z = get_or words 1 (pos 0)} (search rules),
    ) at c.in_ok-after.ensures.stepped in
    let after = c.in_ok-after.after in
    record {
      stepped =
          simp (got after.x (search rules), got after.v (search rules))
          (stored_fills words (after.x ∷ after.v ∷ []) two (load_moved _ _ two (sym stepped)));
    }
