-- Document 01, 'The yard and its carriers': the state of all carriers, as words.
use Rattle.std.specs.Prelude.{ℕ, zero, suc, ◌+◌, ◌*◌, List, [], ◌∷◌, ◌++◌, Bool, ℤ, pos, get_or}
use Rattle.std.proofs.Math.Seq.{paste}
use Rattle.yard.specs.declared.world.Yard.{Yard}
use Rattle.yard.specs.declared.carrier.Carrier.{Carrier}
use Rattle.yard.specs.Ranges.{every}
use Rattle.yard.specs.Boxes.{word, size_of}
use Rattle.yard.specs.Free.{free}
use Rattle.yard.specs.Step.{at_rest, sound_carrier}

-- 'A world is W, H, the cell bytes, and for each carrier x, y, w, h'.
pub record World : Type 0 where
  pub yard : Yard
  pub cells : List ℕ
  pub boxes : List ℤ

-- W, H and B, the cells, and the carriers' words, as one.
abbrev pub world_of : Yard → List ℕ → List ℤ → World
world_of yard cells boxes = record { yard = yard; cells = cells; boxes = boxes }

-- 'The state is five i32 words for each carrier'.
abbrev pub carrier_words : ℕ
carrier_words = 5

-- How many words the state of all carriers has.
abbrev pub state_words : World → ℕ
state_words world = carrier_words * world.yard.b

-- 'in carrier order: x, y, speed u along x, speed v along y, lever': carrier i of a state.
unfoldable pub carrier : ℕ → List ℤ → Carrier
carrier i state =
    let at : ℕ → ℤ = λ k. get_or state (carrier_words * i + k) (pos 0) in
    record { x = at 0; y = at 1; u = at 2; v = at 3; lever = at 4 }

-- The same words, from the carrier.
unfoldable pub words_of : Carrier → List ℤ
words_of c = c.x ∷ c.y ∷ c.u ∷ c.v ∷ c.lever ∷ []

-- The state with carrier i put in its place.
unfoldable pub put : ℕ → Carrier → List ℤ → List ℤ
put i c state = paste state (carrier_words * i) (words_of c) carrier_words

-- Where carrier i is free. The state plays no part: carriers don't touch each other.
unfoldable pub free_for : World → ℕ → List ℤ → ℤ → ℤ → Bool
free_for world i state = free world.yard world.cells (size_of world.boxes i)

-- 'each carrier of the current state free, speeds within 200 either way, lever 0 to 9'.
unfoldable pub sound_state : World → List ℤ → Bool
sound_state world state =
    every world.yard.b (λ i. sound_carrier (free_for world i state) (carrier i state))

-- 'At the start u, v and lever are 0': the start of the carriers below i.
unfoldable pub start_to : List ℤ → ℕ → List ℤ
start_to boxes zero = []
start_to boxes (suc i) = start_to boxes i ++ words_of (at_rest (word boxes i 0) (word boxes i 1))

-- The state at the start.
abbrev pub start_state : World → List ℤ
start_state world = start_to world.boxes world.yard.b
