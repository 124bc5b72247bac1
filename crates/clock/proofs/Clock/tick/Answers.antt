-- `Clock::tick` meets its contract: what a sound clock counts fits its words, and what is given is
-- an outcome of it.
use native.Mathlib.Omega.{arith}
use Rattle.clock.specs.Clock.{due, ticked}
use Rattle.clock.proofs.Sound.{sound_says}
use Rattle.clock.proofs.Readings.{outcomes}
use Rattle.clock.proofs.Clock.tick.Goals as goal

pub overflow_add-pool : goal.overflow_add-pool
overflow_add-pool c =
    let s = sound_says c.requires.sound in
    omega arith

pub overflow_add-steps : goal.overflow_add-steps
overflow_add-steps c =
    let s = sound_says c.requires.sound in
    omega arith

pub overflow_add-clock : goal.overflow_add-clock
overflow_add-clock c =
    let s = sound_says c.requires.sound in
    omega arith

pub returns : goal.returns
unfolding due ticked
returns c = grind (arith, outcomes)
