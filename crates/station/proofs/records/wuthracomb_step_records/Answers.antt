-- `wuthracomb_step_records` meets its contract.
use mathlib.Core.List.{[], ◌∷◌}
use mathlib.Core.Path.{◌∙◌}
use borrow.Author.Tests.{eq-eqb, ne_eqb}
use Rattle.basis.proofs.Order.{passes, fails, gives}
use Rattle.station.specs.Face.{step_records_face}
use Rattle.station.proofs.Outcomes.{refused_fills, stored_fills}
use Rattle.station.proofs.records.wuthracomb_step_records.Goals as goal

pub returns-then-out-ne2 : goal.returns-then-out-ne2
unfolding step_records_face
returns-then-out-ne2 c =
    record { part = rw c.from.ensures (refused_fills _ (fails _ _ (ne_eqb _ _ c.if-out-ne2.true))) }

pub returns : goal.returns
unfolding step_records_face
returns c =
    record {
      part =
          rw c.step_part-part.ensures.part
          (stored_fills _ (_ ∷ _ ∷ []) c.if-out-ne2.false
          (passes _ _ (eq-eqb _ _ c.if-out-ne2.false) ∙ gives _));
    }
