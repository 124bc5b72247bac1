-- `shown_into` meets its contract.
use mathlib.Core.List.{[], ◌∷◌}
use mathlib.Core.Path.{sym}
use Rattle.session.specs.Lent.{lent_of}
use Rattle.station.proofs.Outcomes.{told_on, refused_fills, stored_fills}
use Rattle.station.proofs.Showing.{shown_room, shown_unread, shown_refused, shown_given}
use Rattle.station.proofs.show.shown_into.Goals as goal

pub returns-then-out-ne2 : goal.returns-then-out-ne2
returns-then-out-ne2 c =
    record { shown = refused_fills _ (shown_room _ _ _ _ c.if-out-ne2.true) }

pub returns-in_err-session : goal.returns-in_err-session
returns-in_err-session c =
    record {
      shown =
          rw (told_on _ _ c.from_residual.ensures.1)
          (refused_fills _
          (shown_unread _ _ _ _ c.if-out-ne2.false (sym c.in_err-session.ensures.session)));
    }

pub returns-in_err-place : goal.returns-in_err-place
returns-in_err-place c =
    record {
      shown =
          rw (told_on _ _ c.from_residual-in_err-place.ensures.1)
          (refused_fills _
          (shown_refused _ (lent_of c.args.lent) _ _ c.if-out-ne2.false
          (sym c.in_ok-session.ensures.session) (sym c.in_err-place.ensures.shown)));
    }

pub returns : goal.returns
returns c =
    let place = c.in_ok-place.place in
    record {
      shown =
          stored_fills _ (place.x ∷ place.y ∷ []) c.if-out-ne2.false
          (shown_given _ (lent_of c.args.lent) _ _ c.if-out-ne2.false
          (sym c.in_ok-session.ensures.session) (sym c.in_ok-place.ensures.shown));
    }
