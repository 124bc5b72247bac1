-- `merge_into` meets its contract.
use mathlib.Core.Path.{sym, ap}
use mathlib.Core.List.{[], ◌∷◌}
use Rattle.basis.proofs.Tests.{passed, failed}
use Rattle.station.specs.Left.{leaves_merged}
use Rattle.station.proofs.Merging.{wrong_b, wrong_count, merging_leaves}
use Rattle.station.proofs.Outcomes.{told_on, stores}
use Rattle.station.proofs.merges.merge_into.Goals as goal

pub returns-then-not-carriers_hold : goal.returns-then-not-carriers_hold
returns-then-not-carriers_hold c =
    record {
      merged =
          sym
          (ap (leaves_merged _ _)
          (wrong_b _ _ _ _ _ (failed c.carriers_hold.ensures.hold c.if-not-carriers_hold.true)));
    }

pub returns-then-count-ne1 : goal.returns-then-count-ne1
returns-then-count-ne1 c =
    let few = passed c.carriers_hold.ensures.hold c.if-not-carriers_hold.false in
    record {
      merged =
          sym (ap (leaves_merged _ _) (wrong_count _ _ _ _ _ few c.if-count-ne1.true));
    }

pub returns-in_err-records : goal.returns-in_err-records
returns-in_err-records c =
    record {
      merged =
          rw (told_on _ _ c.from_residual.ensures.1)
          (merging_leaves _ _ _ _ _ _ _ c.if-count-ne1.false c.in_err-records.ensures.merged);
    }

pub returns : goal.returns
returns c =
    record {
      merged =
          rw (stores _ (c.in_ok-records.records ∷ []) c.if-count-ne1.false)
          (merging_leaves _ _ _ _ _ _ _ c.if-count-ne1.false c.in_ok-records.ensures.merged);
    }
