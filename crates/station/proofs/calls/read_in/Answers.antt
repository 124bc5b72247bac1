-- `read_in` meets its contract.
use mathlib.Core.Path.{sym}
use Rattle.session.specs.Lent.{Lent, lent}
use Rattle.station.proofs.Leaving.{reading_unread, reading_left}
use Rattle.station.proofs.Outcomes.{told_on}
use Rattle.station.proofs.Sessions.{read_long}
use Rattle.station.proofs.calls.read_in.Goals as goal

pub returns-in_err-before : goal.returns-in_err-before
returns-in_err-before c =
    let a = c.args in
    let mem : Lent = lent a.cells.now a.boxes.now a.state.now a.rows.now a.log.now in
    record {
      read =
          rw (told_on _ _ c.from_residual.ensures.1)
          (reading_unread _ mem _ (sym c.in_err-before.ensures.session));
    }

pub returns-in_err-session : goal.returns-in_err-session
returns-in_err-session c =
    let a = c.args in
    let mem : Lent = lent a.cells.now a.boxes.now a.state.now a.rows.now a.log.now in
    record {
      read =
          rw (told_on _ _ c.from_residual-in_err-session.ensures.1)
          (reading_left _ mem _ (sym c.in_ok-before.ensures.session) c.in_err-session.ensures.read);
    }

pub put_session-requires : goal.put_session-requires
put_session-requires c = record { room = read_long _ (sym c.in_ok-before.ensures.session) }

pub returns : goal.returns
returns c =
    let a = c.args in
    let mem : Lent = lent a.cells.now a.boxes.now a.state.now a.rows.now a.log.now in
    record {
      read =
          rw c.put_session.ensures.put
          (reading_left _ mem _ (sym c.in_ok-before.ensures.session) c.in_ok-session.ensures.read);
    }
