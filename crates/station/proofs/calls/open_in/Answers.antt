-- `open_in` meets its contract.
use Rattle.basis.proofs.Tests.{passed, failed}
use Rattle.session.specs.Lent.{Lent, lent}
use Rattle.station.proofs.Leaving.{open_world, open_room, open_left}
use Rattle.station.proofs.Outcomes.{told_on}
use Rattle.station.proofs.calls.open_in.Goals as goal

pub returns-then-not-ranges_hold : goal.returns-then-not-ranges_hold
returns-then-not-ranges_hold c =
    let a = c.args in
    let mem : Lent = lent a.cells.now a.boxes.now a.state.now a.rows.now a.log.now in
    record {
      opened =
          open_world _ _ mem _ (failed c.ranges_hold.ensures.ranges c.if-not-ranges_hold.true);
    }

pub returns-then-words-ne-COUNT : goal.returns-then-words-ne-COUNT
returns-then-words-ne-COUNT c =
    let a = c.args in
    let mem : Lent = lent a.cells.now a.boxes.now a.state.now a.rows.now a.log.now in
    record {
      opened =
          open_room _ _ mem _ (passed c.ranges_hold.ensures.ranges c.if-not-ranges_hold.false)
          c.if-words-ne-COUNT.true;
    }

pub returns-in_err-session : goal.returns-in_err-session
returns-in_err-session c =
    let a = c.args in
    let mem : Lent = lent a.cells.now a.boxes.now a.state.now a.rows.now a.log.now in
    record {
      opened =
          rw (told_on _ _ c.from_residual.ensures.1)
          (open_left _ _ mem _ c.if-words-ne-COUNT.false c.in_err-session.ensures.opened);
    }

pub returns : goal.returns
returns c =
    let a = c.args in
    let mem : Lent = lent a.cells.now a.boxes.now a.state.now a.rows.now a.log.now in
    record {
      opened =
          rw c.put_session.ensures.put
          (open_left _ _ mem _ c.if-words-ne-COUNT.false c.in_ok-session.ensures.opened);
    }
