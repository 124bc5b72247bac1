-- A world that opening accepts, as a world of the model `course`: lawful, its states of one width.
use Prim.Native.Nat.{ℕ, ◌*◌, ◌≤◌}
use mathlib.Core.Path.{◌≡◌, refl}
use mathlib.Core.Bool.{Bool, true, ◌&&◌}
use mathlib.Core.List.{List}
use Rattle.std.specs.Prelude.{Option, None, Some}
use native.Mathlib.Omega.{arith}
use borrow.Author.Tests.{eq-eqb, eqb-true}
use lib.Dec.{eqb}
use lib.IntN.{ℤ, pos}
use lib.ListN.{length}
use Rattle.basis.specs.Numbers.{step_length, most_lever}
use Rattle.basis.proofs.Tests.{and_left, and_right, and_both}
use Rattle.yard.specs.Step.{LeverFits}
use Rattle.yard.specs.Rule9.{ranges_hold, cells_hold, sizes_hold, starts_hold}
use Rattle.fleet.specs.State.{World, state_words, sound_state, start_state}
use Rattle.fleet.specs.Step.{step_all}
use Rattle.fleet.specs.Fits.{StateFits}
use Rattle.fleet.proofs.Steps.{length_all}
use Rattle.fleet.proofs.Carriers.{all_keeps}
use Rattle.course.specs.World.{Lawful}
use Rattle.course.specs.World as course
use Rattle.course.specs.Words.{WordWorld, world_of_words, Sized}
use Rattle.session.proofs.Room.{carriers_most}
use Rattle.fleet.proofs.Starts.{start_fits}

-- What opening asks of a world: ranges, lengths, cells, sizes, starts.
pub record Opens (world : World) : Type 0 where
  pub ranges : ranges_hold world.yard ≡ true
  pub laid : length world.cells ≡ world.yard.w * world.yard.h
  pub room : length world.boxes ≡ 4 * world.yard.b
  pub cells : cells_hold world.cells ≡ true
  pub sizes : sizes_hold world.yard world.boxes ≡ true
  pub starts : starts_hold world.yard world.cells world.boxes ≡ true

-- A state of the right length that keeps the state rule.
abbrev pub fitting : World → List ℤ → Bool
fitting world state = eqb (length state) (state_words world) && sound_state world state

abbrev pub words : World → WordWorld ℤ
words world =
    record {
      width = state_words world;
      carriers = world.yard.b;
      length = step_length;
      start = start_state world;
      zero = pos 0;
      step = step_all world;
      good = fitting world;
    }

abbrev pub model : World → course.World
model world = world_of_words (words world)

pub fitting_fits : (world : World) (state : List ℤ) → fitting world state ≡ true
    → StateFits world state
fitting_fits world state e =
    let long = eqb (length state) (state_words world) in
    record {
      room = eqb-true _ _ (and_left long (sound_state world state) e);
      sound = and_right long (sound_state world state) e;
    }

pub fits_fitting : {world : World} {state : List ℤ} → StateFits world state
    → fitting world state ≡ true
fits_fitting s = and_both (eq-eqb _ _ s.room) s.sound

module _ (world : World) (opens : Opens world) where
  pub starts : StateFits world (start_state world)
  starts = start_fits world.yard world.cells world.boxes opens.starts

  pub sized : Sized (words world)
  sized = record { start = starts.room; step = length_all world }

  -- Levers of at most 9 are such as a carrier's step may be given.
  lever_fits : (lever : Option ℕ) → ((n : ℕ) → lever ≡ Some n → n ≤ most_lever)
      → LeverFits lever
  lever_fits None h = tt
  lever_fits (Some n) h = h n refl

  pub lawful : Lawful (model world)
  lawful =
      record {
        few = carriers_most world.yard opens.ranges;
        positive = omega arith;
        start = fits_fitting starts;
        step = λ levers state h e.
            fits_fitting
            (all_keeps world levers (λ i. lever_fits (levers i) (h i)) state
            (fitting_fits world state e));
      }
