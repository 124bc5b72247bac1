-- `read_into` meets its contract.
use mathlib.Core.List.{[], ◌∷◌}
use mathlib.Core.Path.{sym}
use Rattle.station.proofs.OneRecord.{read_refused, read_no_room, read_given}
use Rattle.station.proofs.Outcomes.{told_on, refused_fills, stored_fills}
use Rattle.station.proofs.records.read_into.Goals as goal

pub returns-in_err-r : goal.returns-in_err-r
returns-in_err-r c =
    record {
      read =
          rw (told_on _ _ c.from_residual.ensures.1)
          (refused_fills _ (read_refused _ _ (sym c.in_err-r.ensures.read)));
    }

pub returns-then-out-ne3 : goal.returns-then-out-ne3
returns-then-out-ne3 c =
    record {
      read = refused_fills _ (read_no_room _ _ (sym c.in_ok-r.ensures.read) c.if-out-ne3.true);
    }

pub returns : goal.returns
returns c =
    let r = c.in_ok-r.r in
    record {
      read =
          rw (c.from.ensures, c.from-2.ensures)
          (stored_fills _ (r.step ∷ r.carrier ∷ r.lever ∷ []) c.if-out-ne3.false
          (read_given _ _ (sym c.in_ok-r.ensures.read) c.if-out-ne3.false));
    }
