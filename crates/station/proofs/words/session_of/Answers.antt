-- `session_of` meets its contract.
use mathlib.Core.Path.{sym, ◌∙◌}
use native.Mathlib.Omega.{arith}
use Rattle.station.specs.Words.{session_of}
use Rattle.station.proofs.Outcomes.{passed_on}
use Rattle.station.proofs.Sessions.{not_nine, no_width, no_height, no_carriers, are_session}
use Rattle.station.proofs.words.session_of.Goals as goal

pub returns-in_default : goal.returns-in_default
returns-in_default c = record { session = sym (not_nine _ (λ e. omega arith)) }

pub returns-in_default-2 : goal.returns-in_default-2
returns-in_default-2 c = record { session = sym (not_nine _ (λ e. omega arith)) }

pub returns-in_err-small : goal.returns-in_err-small
returns-in_err-small c =
    let bad = c.in_err-small.ensures.small in
    record {
      session =
          passed_on _ _ c.from_residual.ensures.1
          ∙ rw bad.1 (sym (no_width _ (omega arith) bad.0));
    }

pub returns-in_err-small-2 : goal.returns-in_err-small-2
returns-in_err-small-2 c =
    let bad = c.in_err-small-2.ensures.small in
    record {
      session =
          passed_on _ _ c.from_residual-in_err-small-2.ensures.1
          ∙ rw bad.1 (sym (no_height _ (omega arith) c.in_ok-small.ensures.small.1 bad.0));
    }

pub returns-in_err-small-3 : goal.returns-in_err-small-3
returns-in_err-small-3 c =
    let bad = c.in_err-small-3.ensures.small in
    record {
      session =
          passed_on _ _ c.from_residual-in_err-small-3.ensures.1
          ∙ rw bad.1
          (sym
          (no_carriers _ (omega arith) c.in_ok-small.ensures.small.1 c.in_ok-small-2.ensures.small.1
          bad.0));
    }

pub returns : goal.returns
unfolding session_of
returns c =
    let w = c.in_ok-small.ensures.small in
    let h = c.in_ok-small-2.ensures.small in
    let b = c.in_ok-small-3.ensures.small in
    record {
      session = rw (w.0, h.0, b.0) (sym (are_session _ (omega arith) w.1 h.1 b.1));
    }
