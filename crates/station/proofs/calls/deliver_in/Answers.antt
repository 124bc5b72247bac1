-- `deliver_in` meets its contract.
use mathlib.Core.Path.{sym}
use Rattle.session.specs.Lent.{Lent, lent}
use Rattle.station.proofs.Leaving.{deliver_unread, deliver_left}
use Rattle.station.proofs.Outcomes.{told_on}
use Rattle.station.proofs.Sessions.{read_long}
use Rattle.station.proofs.calls.deliver_in.Goals as goal
use Rattle.station.proofs.calls.deliver_in.Goals.{in-Taken, in-Held}

pub returns-in_err-before : goal.returns-in_err-before
returns-in_err-before c =
    let a = c.args in
    let mem : Lent = lent a.cells.now a.boxes.now a.state.now a.rows.now a.log.now in
    record {
      delivered =
          rw (told_on _ _ c.from_residual.ensures.1)
          (deliver_unread _ mem _ (sym c.in_err-before.ensures.session));
    }

pub returns-in_err-delivered : goal.returns-in_err-delivered
returns-in_err-delivered c =
    let a = c.args in
    let mem : Lent = lent a.cells.now a.boxes.now a.state.now a.rows.now a.log.now in
    record {
      delivered =
          rw (told_on _ _ c.from_residual-in_err-delivered.ensures.1)
          (deliver_left _ mem _ (sym c.in_ok-before.ensures.session)
          c.in_err-delivered.ensures.delivered);
    }

pub put_session-requires : goal.put_session-requires
put_session-requires c = record { room = read_long _ (sym c.in_ok-before.ensures.session) }

pub returns : goal.returns
returns c =
    let a = c.args in
    let mem : Lent = lent a.cells.now a.boxes.now a.state.now a.rows.now a.log.now in
    let made =
    deliver_left _ mem _ (sym c.in_ok-before.ensures.session) c.in_ok-delivered.ensures.delivered in
    record {
      delivered =
          rw c.put_session.ensures.put
          (elim c.match-delivered.branch [
            | in-Taken w ↦ rw w.number-is (rw w.in-Taken.is at made)
            | in-Held w ↦ rw w.number-is (rw w.in-Held.is at made)
          ]);
    }
