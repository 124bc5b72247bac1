-- Document 01, the state rule of '*Sound* means', as plain facts.
use Rattle.std.specs.Prelude.{ℕ, ◌≤◌, ◌<◌, List, ℤ, nat_abs}
use Rattle.yard.specs.declared.carrier.Carrier.{Carrier}
use Rattle.yard.specs.Boxes.{size_of}
use Rattle.yard.specs.Facts.{FromTo, FreeAt}
use Rattle.fleet.specs.State.{World, carrier}

-- 'free, speeds within 200 either way, lever 0 to 9', of carrier i.
pub record CarrierSound (world : World) (i : ℕ) (c : Carrier) : Type 0 where
  pub free : FreeAt world.yard world.cells (size_of world.boxes i) c.x c.y
  pub u : nat_abs c.u ≤ 200
  pub v : nat_abs c.v ≤ 200
  pub lever : FromTo 0 9 c.lever

-- 'each carrier' of a state.
abbrev pub StateSound : World → List ℤ → Type 0
StateSound world state = (i : ℕ) → i < world.yard.b → CarrierSound world i (carrier i state)
