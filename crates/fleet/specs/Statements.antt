-- What is claimed of the fleet. proofs/Statements.antt proves each record whole.
use Rattle.std.specs.Prelude.{ℕ, ◌+◌, ◌*◌, ◌-◌, ◌≤◌, ◌<◌, ◌≡◌, ◌↔◌, ◌≢◌, true, Option, List, ℤ, length}
use Rattle.basis.specs.Numbers.{row_count}
use Rattle.basis.specs.Order.{Determines}
use Rattle.record.specs.declared.bytes.Record.{Record}
use Rattle.record.specs.Log.{records}
use Rattle.record.specs.Buffer.{lever_at}
use Rattle.yard.specs.declared.carrier.Carrier.{Carrier}
use Rattle.yard.specs.Boxes.{word, size_of}
use Rattle.yard.specs.Free.{free}
use Rattle.yard.specs.Rule9.{starts_hold}
use Rattle.yard.specs.Step.{LeverFits, at_rest, step}
use Rattle.fleet.specs.State.{World, carrier_words, state_words, carrier, put, free_for}
use Rattle.fleet.specs.State.{sound_state, start_state}
use Rattle.fleet.specs.Step.{step_to, step_all, step_at}
use Rattle.fleet.specs.Run.{Course, run, run_saving, row_of, go_back}
use Rattle.fleet.specs.Facts.{StateSound}
use Rattle.fleet.specs.Fits.{LogFits, StateFits, RowsFit}
use Rattle.fleet.specs.Says.{ClearRowsSays}

-- 'any two outcomes allowed by it coincide', for the contract of the one public entry.
pub record Determined : Type 0 where
  -- `clear_rows`
  pub cleared : (before : List ℤ) → Determines (ClearRowsSays before)

-- 'five i32 words for each carrier, in carrier order': a carrier put in its place.
pub record Words : Type 0 where
  -- It is read back.
  pub back : (i : ℕ) (c : Carrier) (state : List ℤ)
      → carrier_words * i + carrier_words ≤ length state
      → carrier i (put i c state) ≡ c
  -- The others are as they were.
  pub others : (i k : ℕ) (c : Carrier) (state : List ℤ)
      → carrier_words * i + carrier_words ≤ length state → i ≢ k
      → carrier k (put i c state) ≡ carrier k state
  -- The number of words stays.
  pub room : (i : ℕ) (c : Carrier) (state : List ℤ)
      → carrier_words * i + carrier_words ≤ length state
      → length (put i c state) ≡ length state
  -- A state has no words but its carriers'.
  pub only : (world : World) (state other : List ℤ) → length state ≡ state_words world
      → length other ≡ state_words world
      → ((i : ℕ) → i < world.yard.b → carrier i state ≡ carrier i other)
      → state ≡ other

-- Every carrier of a state is free where it is.
abbrev pub EachFree : World → List ℤ → Type 0
EachFree world state =
    (i : ℕ) → i < world.yard.b
    → free_for world i state (carrier i state).x (carrier i state).y ≡ true

-- 'It is *free* there if ..', of carrier i in a state.
pub record FreeFor : Type 0 where
  -- Exactly where it is free in the yard, with its size: no other carrier plays a part.
  pub in_yard : (world : World) (i : ℕ) (state : List ℤ) (x y : ℤ)
      → free_for world i state x y ≡ free world.yard world.cells (size_of world.boxes i) x y
  -- Its own words play no part.
  pub own : (world : World) (i : ℕ) (c : Carrier) (state : List ℤ) (x y : ℤ)
      → carrier_words * i + carrier_words ≤ length state
      → free_for world i (put i c state) x y ≡ free_for world i state x y
  -- Where every carrier is free, and one is put at a place that is free for it, every carrier is.
  pub others : (world : World) (i : ℕ) (c : Carrier) (state : List ℤ)
      → carrier_words * i + carrier_words ≤ length state
      → EachFree world state → free_for world i state c.x c.y ≡ true
      → EachFree world (put i c state)

-- The state at the start.
pub record Start : Type 0 where
  -- 'five i32 words for each carrier'
  pub room : (world : World) → length (start_state world) ≡ state_words world
  -- 'At the start u, v and lever are 0': each carrier at rest at the x and y of the world.
  pub rest : (world : World) (i : ℕ) → i < world.yard.b
      → carrier i (start_state world) ≡ at_rest (word world.boxes i 0) (word world.boxes i 1)
  -- Where no start is refused by rule 9, it is sound.
  pub sound : (world : World) → starts_hold world.yard world.cells world.boxes ≡ true
      → sound_state world (start_state world) ≡ true

-- 'each carrier of the current state free, speeds within 200 either way, lever 0 to 9'
pub record StateRule : Type 0 where
  -- A state passes if and only if each of its carriers does.
  pub means : (world : World) (state : List ℤ)
      → (sound_state world state ≡ true) ↔ StateSound world state

-- 'One step' of all carriers.
pub record OneStep : Type 0 where
  -- 'For each carrier', by number: it is moved once, from its words before the step.
  pub each : (world : World) (levers : ℕ → Option ℕ) (state : List ℤ)
      → length state ≡ state_words world → (i : ℕ) → i < world.yard.b
      → carrier i (step_all world levers state)
      ≡ step (free_for world i (step_to world levers i state)) (levers i) (carrier i state)
  -- No lever but those of the B carriers plays a part.
  pub same : (world : World) (levers other : ℕ → Option ℕ) (state : List ℤ)
      → ((i : ℕ) → i < world.yard.b → levers i ≡ other i)
      → step_all world levers state ≡ step_all world other state
  -- A sound state stays sound and keeps its number of words, under any levers 0 to 9.
  pub stays : (world : World) (levers : ℕ → Option ℕ) (state : List ℤ)
      → ((i : ℕ) → LeverFits (levers i)) → StateFits world state
      → StateFits world (step_all world levers state)
  -- So it does under the records of any sound log.
  pub log : (world : World) (held : ℕ) (log : List ℕ) (t : ℕ) (state : List ℤ)
      → LogFits world held log → StateFits world state
      → StateFits world (step_at world (records held log) t state)

-- Two lists of records hold the same levers for k steps from step t on.
abbrev pub Agree : World → ℕ → ℕ → List Record → List Record → Type 0
Agree world t k list other =
    (s i : ℕ) → t ≤ s → s < t + k → i < world.yard.b → lever_at s i list ≡ lever_at s i other

-- Steps one after the other, without saved rows and with them.
pub record Runs : Type 0 where
  -- A run of a steps, then one of b steps, is a run of a + b.
  pub joined : (world : World) (list : List Record) (t a b : ℕ) (state : List ℤ)
      → run world list (t + a) b (run world list t a state) ≡ run world list t (a + b) state
  -- So it is with saved rows.
  pub joined_saving : (world : World) (list : List Record) (t a b : ℕ) (course : Course)
      → run_saving world list (t + a) b (run_saving world list t a course)
      ≡ run_saving world list t (a + b) course
  -- Saving rows moves no carrier.
  pub state : (world : World) (list : List Record) (t k : ℕ) (course : Course)
      → (run_saving world list t k course).state ≡ run world list t k course.state
  -- A sound state stays sound and keeps its number of words, under the records of any sound log.
  pub stays : (world : World) (held : ℕ) (log : List ℕ) (t k : ℕ) (state : List ℤ)
      → LogFits world held log → StateFits world state
      → StateFits world (run world (records held log) t k state)
  -- 'records for step n or later .. move nothing', nor do those of steps before the run.
  pub same : (world : World) (list other : List Record) (t k : ℕ) (state : List ℤ)
      → Agree world t k list other
      → run world list t k state ≡ run world other t k state
  -- So it is with saved rows.
  pub same_saving : (world : World) (list other : List Record) (t k : ℕ) (course : Course)
      → Agree world t k list other
      → run_saving world list t k course ≡ run_saving world other t k course

-- A state and saved rows of the right length.
pub record CourseFits (world : World) (course : Course) : Type 0 where
  pub state : length course.state ≡ state_words world
  pub rows : RowsFit world course.rows

-- 'Going back': what k steps from step t on leave in the saved rows.
pub record SavedRows : Type 0 where
  -- 'The saved rows are 64 states, 320·B words', and stay so.
  pub room : (world : World) (list : List Record) (t k : ℕ) (course : Course)
      → CourseFits world course → CourseFits world (run_saving world list t k course)
  -- 'row t mod 64 holds the state before step t for the last 64 steps made', of those made here.
  pub row : (world : World) (list : List Record) (t k : ℕ) (course : Course)
      → CourseFits world course
      → (s : ℕ) → t ≤ s → s < t + k → t + k ≤ s + row_count
      → row_of (state_words world) s (run_saving world list t k course).rows
      ≡ run world list t (s - t) course.state
  -- Of those made before, the row is as it was.
  pub earlier : (world : World) (list : List Record) (t k : ℕ) (course : Course)
      → CourseFits world course
      → (s : ℕ) → s < t → t + k ≤ s + row_count
      → row_of (state_words world) s (run_saving world list t k course).rows
      ≡ row_of (state_words world) s course.rows

-- 'Going back' to step s, one of the last 64 of k steps from step t on, under other records that
-- hold the same levers below step s.
pub record GoingBack : Type 0 where
  -- The state is as if the other records had been held from step t on.
  pub state : (world : World) (list other : List Record) (t k : ℕ) (course : Course)
      → CourseFits world course
      → (s : ℕ) → t ≤ s → s < t + k → t + k ≤ s + row_count → Agree world t (s - t) list other
      → (go_back world other s (t + k) (run_saving world list t k course)).state
      ≡ run world other t k course.state
  -- 'rows included': so is the row of each of the last 64 steps, r among them.
  pub row : (world : World) (list other : List Record) (t k : ℕ) (course : Course)
      → CourseFits world course
      → (s : ℕ) → t ≤ s → s < t + k → t + k ≤ s + row_count → Agree world t (s - t) list other
      → (r : ℕ) → t ≤ r → r < t + k → t + k ≤ r + row_count
      → row_of (state_words world) r
      (go_back world other s (t + k) (run_saving world list t k course)).rows
      ≡ run world other t (r - t) course.state
