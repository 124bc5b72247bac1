-- `state::start` meets its contract.
use mathlib.Core.Path.{◌∙◌}
use native.Mathlib.Omega.{arith}
use Rattle.basis.proofs.Signed.{got}
use Rattle.fleet.proofs.Words.{start_on}
use Rattle.fleet.proofs.state.start.Goals as goal

pub loop-i-preserved : goal.loop-i-preserved
loop-i-preserved c =
    let x = c.word_of in
    let y = c.word_of-in-loop-i in
    c.store.ensures.stored
    ∙ rw (
      got x.result x.type_inv,
      got y.result y.type_inv,
      x.ensures.read,
      y.ensures.read,
      c.loop-i.invariant,
    )
    (start_on c.args.boxes.now c.args.state.now c.loop-i.i (omega arith))
