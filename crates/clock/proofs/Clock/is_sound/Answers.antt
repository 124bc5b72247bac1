-- `Clock::is_sound` meets its contract: within the limits, the last test is what is left of the time
-- equation.
use native.Mathlib.Omega.{arith}
use borrow.Author.Tests.{leb-true, eqb-true, eqb-false}
use Rattle.clock.proofs.Sound.{decides}
use Rattle.clock.proofs.Clock.is_sound.Goals as goal

pub returns-then-counted-passed : goal.returns-then-counted-passed
returns-then-counted-passed c =
    record { sound = decides _ (λ e. omega (arith, eqb-true)) (λ e s. omega (arith, eqb-false)) }

pub returns-else-counted-passed : goal.returns-else-counted-passed
returns-else-counted-passed c =
    record { sound = decides _ (λ e. omega (arith, leb-true)) (λ e s. omega arith) }
