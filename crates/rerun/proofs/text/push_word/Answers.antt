-- `push_word` meets its contract.
use native.Mathlib.Omega.{arith}
use mathlib.Core.Path.{ap}
use mathlib.Core.List.{◌++◌, append_assoc}
use mir.Facts.{to_z-of_z}
use mir.Syntax.{w32}
use Rattle.rerun.proofs.Decimals.{same_word}
use Rattle.rerun.proofs.text.push_word.Goals as goal

pub returns-clause-pushed : goal.returns-clause-pushed
returns-clause-pushed c =
    rw (
      c.push_str.ensures.bytes,
      c.push.ensures.ascii (omega arith),
      c.format.ensures.text,
      to_z-of_z {w = w32} c.ranges.z,
      append_assoc,
    )
    (ap (λ l. c.args.text.now.bytes ++ l) (same_word c.args.z (omega (arith, c.ranges.z))))
