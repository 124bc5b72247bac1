-- `write_into` meets its contract.
use Rattle.station.proofs.OneRecord.{write_refused, write_no_room, write_given}
use Rattle.station.proofs.Outcomes.{told_on, refused_fills, given_fills}
use Rattle.station.proofs.records.write_into.Goals as goal

pub returns-in_err-bytes : goal.returns-in_err-bytes
returns-in_err-bytes c =
    record {
      written =
          rw (told_on _ _ c.from_residual.ensures.1)
          (refused_fills _ (write_refused _ _ _ _ c.in_err-bytes.ensures.written));
    }

pub returns-then-out-ne-SIZE : goal.returns-then-out-ne-SIZE
returns-then-out-ne-SIZE c =
    record {
      written =
          refused_fills _
          (write_no_room _ _ _ _ c.in_ok-bytes.ensures.written c.if-out-ne-SIZE.true);
    }

pub returns : goal.returns
returns c =
    record {
      written =
          rw c.copy_from_slice.ensures.after
          (given_fills _
          (write_given _ _ _ _ c.in_ok-bytes.ensures.written c.if-out-ne-SIZE.false));
    }
