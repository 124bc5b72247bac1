-- `digest_into` meets its contract.
use mathlib.Core.Path.{sym}
use mathlib.Core.List.{[], ◌∷◌}
use Rattle.session.specs.Lent.{lent_of}
use Rattle.station.proofs.Outcomes.{told_on, refused_fills, stored_fills}
use Rattle.station.proofs.Showing.{digest_room, digest_unread, digest_refused, digest_given}
use Rattle.station.proofs.show.digest_into.Goals as goal

pub returns-then-out-ne1 : goal.returns-then-out-ne1
returns-then-out-ne1 c =
    record { digested = refused_fills _ (digest_room _ _ _ c.if-out-ne1.true) }

pub returns-in_err-session : goal.returns-in_err-session
returns-in_err-session c =
    record {
      digested =
          rw (told_on _ _ c.from_residual.ensures.1)
          (refused_fills _
          (digest_unread _ _ _ c.if-out-ne1.false (sym c.in_err-session.ensures.session)));
    }

pub returns-in_err-out : goal.returns-in_err-out
returns-in_err-out c =
    record {
      digested =
          rw (told_on _ _ c.from_residual-in_err-out.ensures.1)
          (refused_fills _
          (digest_refused (lent_of c.args.lent) _ _ c.if-out-ne1.false
          (sym c.in_ok-session.ensures.session) (sym c.in_err-out.ensures.digested)));
    }

pub returns : goal.returns
returns c =
    record {
      digested =
          stored_fills _ (c.in_ok-out.field-0 ∷ []) c.if-out-ne1.false
          (digest_given (lent_of c.args.lent) _ _ c.if-out-ne1.false
          (sym c.in_ok-session.ensures.session) (sym c.in_ok-out.ensures.digested));
    }
