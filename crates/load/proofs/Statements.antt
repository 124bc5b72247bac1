-- The statements of specs/Statements.antt, proved.
use mathlib.Core.Path.{refl}
use Rattle.basis.proofs.Order.{one_outcome}
use Rattle.basis.proofs.Refusals.{one_answer}
use Rattle.load.specs.Step.{speed_after, moved}
use Rattle.load.specs.Statements.{Determined, HangingLoad}
use Rattle.load.proofs.Numbers.{step_numbers}
use Rattle.load.proofs.Rounding.{rounded}
use Rattle.load.proofs.Energy.{change, drift}

pub determined : Determined
determined = record { step = λ load p. one_outcome one_answer }

pub hanging_load : HangingLoad
unfolding moved speed_after
hanging_load =
    record {
      rounded = rounded;
      speed = λ p load. refl;
      offset = λ p load. refl;
      numbers = step_numbers;
      change = change;
      drift = drift;
    }
