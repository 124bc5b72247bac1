-- `put_forces` meets its contract.
use mathlib.Core.Path.{sym, ◌∙◌}
use native.Mathlib.Omega.{arith}
use lib.ListN.{length-set}
use Rattle.std.proofs.lemmas.Result.{err_from_is_err_and}
use Rattle.station.proofs.Ropes.{kind_holds, force_put, unknown_kind, all_known}
use Rattle.station.proofs.rope_ends.put_forces.Goals as goal

pub returns-in_err-kind : goal.returns-in_err-kind
returns-in_err-kind c =
    let p = err_from_is_err_and c.from_residual.result c.from_residual.ensures.1 in
    record {
      put =
          rw (p.1, p.2, c.in_err-kind.ensures.1)
          (sym
          (unknown_kind _ _ _ c.loop-i-test.true c.in_err-kind.ensures.0 c.loop-i.invariant.known));
    }

pub loop-i-preserved : goal.loop-i-preserved
loop-i-preserved c =
    let l = c.loop-i in
    let kinds = c.args.kinds.now in
    record {
      room = simp length-set l.invariant.room;
      known =
          l.invariant.known
          ∙ kind_holds kinds l.i c.loop-i-test.true (grind (arith, c.in_ok-kind.ensures));
      put =
          rw (c.force.ensures.force, c.in_ok-kind.ensures)
          (sym (force_put kinds l.i c.loop-i-test.true c.args.numbers.now l.forces (omega arith))
          ∙ l.invariant.put);
    }

pub returns : goal.returns
returns c =
    record {
      put =
          all_known _ _ _ c.loop-i-test.false c.loop-i.auto.i-end _ c.loop-i.invariant.room
          c.loop-i.invariant.known c.loop-i.invariant.put;
    }
