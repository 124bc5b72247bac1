-- One carrier of a state: what is put in is got out, the others stay, and the state rule is kept.
use Prim.Native.Nat.{ℕ, zero, suc, ◌+◌, ◌*◌, ◌<◌, ◌≤◌}
use mathlib.Core.Path.{◌≡◌, refl, ◌∙◌}
use mathlib.Core.Logic.Iff
use mathlib.Core.Logic.{◌↔◌, ◌≢◌}
use mathlib.Core.List.{List}
use Rattle.std.specs.Prelude.{Option, Some}
use mathlib.Core.Bool.{Bool, true, false, cond, ◌&&◌}
use native.Mathlib.Omega.{arith}
use lib.IntN.{ℤ, pos}
use lib.ListN.{length}
use lib.Dec.{eqb, ltb}
use borrow.Author.Tests.{eqb-true, eqb-false, ltb-true, ltb-false}
use Rattle.basis.proofs.Lists.{paste_at, paste_before, paste_after}
use Rattle.record.specs.Buffer.{lever_at}
use Rattle.record.specs.Log.{records}
use Rattle.record.specs.declared.bytes.Record.{Record}
use Rattle.record.proofs.Logs.{AllWithin, done, more, all_within}
use Rattle.yard.specs.declared.carrier.Carrier.{Carrier}
use Rattle.yard.specs.Boxes.{size_of}
use Rattle.yard.specs.Free.{free}
use Rattle.yard.specs.Step.{LeverFits, step, sound_carrier}
use Rattle.yard.proofs.Every.{all_pass, passes, each as each-says}
use Rattle.yard.proofs.Squares.{free_at}
use Rattle.yard.proofs.Soundness.{good_of, of_good, rule, step_sound}
use Rattle.fleet.specs.State.{World, carrier_words, carrier, words_of, put, free_for, sound_state}
use Rattle.fleet.specs.Step.{step_one, step_to, step_all, step_at}
use Rattle.fleet.specs.Facts.{CarrierSound, StateSound}
use Rattle.fleet.specs.Fits.{LogFits, StateFits}
use Rattle.fleet.specs.Statements.{EachFree}
use Rattle.fleet.proofs.Words.{same_words, carrier_is, length_put}

module _ (i : ℕ) (c : Carrier) (state : List ℤ)
    (room : carrier_words * i + carrier_words ≤ length state) where
  pub carrier_put : carrier i (put i c state) ≡ c
  unfolding put words_of
  carrier_put =
      carrier_is i c (put i c state)
      (λ j h.
      paste_at state (carrier_words * i) (words_of c) carrier_words (pos 0) room (omega arith) j h)

  pub carrier_other : (k : ℕ) → i ≢ k → carrier k (put i c state) ≡ carrier k state
  unfolding put words_of
  carrier_other k d = go (ltb k i) refl
    where
      go : (t : Bool) → ltb k i ≡ t → carrier k (put i c state) ≡ carrier k state
      go true e =
          let h : k < i = ltb-true k i e in
          same_words k k (put i c state) state
          (λ j l.
          paste_before state (carrier_words * i) (words_of c) carrier_words (pos 0) room (omega arith)
          (carrier_words * k + j) (omega arith))
      go false e =
          let h : i < k = omega (arith, d, ltb-false k i e) in
          same_words k k (put i c state) state
          (λ j l.
          paste_after state (carrier_words * i) (words_of c) carrier_words (pos 0) room (omega arith)
          (carrier_words * k + j) (omega arith))

pub free_as_yard : (world : World) (i : ℕ) (state : List ℤ) (x y : ℤ)
    → free_for world i state x y ≡ free world.yard world.cells (size_of world.boxes i) x y
unfolding free_for
free_as_yard world i state x y = refl

-- The state rule, as facts of each carrier.
pub state_sound : (world : World) (state : List ℤ)
    → (sound_state world state ≡ true) ↔ StateSound world state
unfolding sound_state free_for
state_sound world state = each-says _ world.yard.b one
  where
    one : (i : ℕ) → (sound_carrier (free_for world i state) (carrier i state) ≡ true)
        ↔ CarrierSound world i (carrier i state)
    one i =
        let c = carrier i state in
        let f = free_at world.yard world.cells (size_of world.boxes i) c.x c.y in
        Iff.trans (rule (free_for world i state) c) (
          λ (free, u, v, lever). record { free = f.0 free; u = u; v = v; lever = lever },
          λ g. (f.1 g.free, g.u, g.v, g.lever),
        )

-- Where carrier i is free its own words play no part; put at a place that is free for it, it leaves
-- every carrier free.
module _ (world : World) (i : ℕ) (c : Carrier) (state : List ℤ)
    (room : carrier_words * i + carrier_words ≤ length state) where
  pub free_own : (x y : ℤ) → free_for world i (put i c state) x y ≡ free_for world i state x y
  unfolding free_for
  free_own x y = refl

  pub free_stays : EachFree world state → free_for world i state c.x c.y ≡ true
      → EachFree world (put i c state)
  unfolding free_for
  free_stays each here k l = go (eqb i k) refl
    where
      go : (t : Bool) → eqb i k ≡ t
          → free_for world k (put i c state)
          (carrier k (put i c state)).x (carrier k (put i c state)).y
          ≡ true
      go true e = rw (← eqb-true i k e, carrier_put i c state room) here
      go false e = rw (carrier_other i c state room k (eqb-false i k e)) (each k l)

-- A sound carrier is sound wherever its place is free.
same_rule : (free other : ℤ → ℤ → Bool) (c : Carrier) → sound_carrier free c ≡ true
    → other c.x c.y ≡ true → sound_carrier other c ≡ true
same_rule free other c e here =
    let g = good_of free c e in
    of_good other c (record { here = here; u = g.u; v = g.v; lever = g.lever })

-- Every carrier of a sound state is free.
pub each_free : (world : World) (state : List ℤ) → sound_state world state ≡ true
    → EachFree world state
unfolding sound_state
each_free world state e i l = (good_of _ _ (passes _ _ e i l)).here

-- A carrier's step keeps the state rule.
module _ (world : World) (held : Option ℕ) (i : ℕ) (state : List ℤ) (h : i < world.yard.b)
    (fits : LeverFits held) (s : StateFits world state) where
  room : carrier_words * i + carrier_words ≤ length state
  room = omega (arith, s.room)

  moved : Carrier
  moved = step (free_for world i state) held (carrier i state)

  -- The carrier that is put in is sound where it stands.
  stepped : sound_carrier (free_for world i state) moved ≡ true
  unfolding sound_state moved
  stepped =
      step_sound (free_for world i state) held (carrier i state) fits (passes _ _ s.sound i h)

  all_free : EachFree world (put i moved state)
  all_free =
      free_stays world i moved state room (each_free world state s.sound)
      (good_of _ _ stepped).here

  each : (k : ℕ) → k < world.yard.b
      → sound_carrier (free_for world k (put i moved state)) (carrier k (put i moved state)) ≡ true
  unfolding sound_state
  each k l = go (eqb i k) refl
    where
      go : (t : Bool) → eqb i k ≡ t
          → sound_carrier (free_for world k (put i moved state)) (carrier k (put i moved state))
          ≡ true
      go true e =
          same_rule (free_for world i state) _ _
          (rw (← eqb-true i k e, carrier_put i moved state room) stepped) (all_free k l)
      go false e =
          same_rule (free_for world k state) _ _
          (rw (carrier_other i moved state room k (eqb-false i k e)) (passes _ _ s.sound k l))
          (all_free k l)

  pub one_keeps : StateFits world (step_one world held i state)
  unfolding step_one sound_state moved
  one_keeps = record { room = length_put i _ state room ∙ s.room; sound = all_pass _ _ each }

-- The steps of the carriers below i keep it, and so does a step of all.
module _ (world : World) (levers : ℕ → Option ℕ) (fits : (i : ℕ) → LeverFits (levers i))
    (state : List ℤ) (s : StateFits world state) where
  pub to_keeps : (i : ℕ) → i ≤ world.yard.b → StateFits world (step_to world levers i state)
  unfolding step_to
  to_keeps zero h = s
  to_keeps (suc i) h =
      one_keeps world (levers i) i (step_to world levers i state) h (fits i)
      (to_keeps i (omega arith))

  pub all_keeps : StateFits world (step_all world levers state)
  unfolding step_all
  all_keeps = to_keeps world.yard.b (omega arith)

-- A lever that records within the limits hold is 0 to 9.
pub lever_fits : {carriers : ℕ} {l : List Record} (t i : ℕ) → AllWithin carriers l
    → LeverFits (lever_at t i l)
unfolding lever_at
lever_fits t i done = tt
lever_fits t i (more {r = r} {rest = rest} w a) =
    go (eqb r.step t && eqb r.carrier i) (lever_fits t i a)
  where
    go : (b : Bool) → LeverFits (lever_at t i rest)
        → LeverFits (cond b (Some r.lever) (lever_at t i rest))
    go true f = w.lever
    go false f = f

-- One step under records within the limits keeps the state rule.
pub step_keeps : {carriers : ℕ} {l : List Record} (world : World) (t : ℕ) (state : List ℤ)
    → AllWithin carriers l → StateFits world state → StateFits world (step_at world l t state)
step_keeps {l = l} world t state a s =
    all_keeps world (λ i. lever_at t i l) (λ i. lever_fits t i a) state s

-- A log that fits holds levers 0 to 9, and a step under it keeps the state rule.
module _ {world : World} {held : ℕ} {log : List ℕ} (fits : LogFits world held log) where
  abbrev pub within : AllWithin world.yard.b (records held log)
  within = all_within world.yard.b held log fits.unrefused

  pub log_lever : (t i : ℕ) → LeverFits (lever_at t i (records held log))
  log_lever t i = lever_fits t i within

  pub log_step : (t : ℕ) (state : List ℤ) → StateFits world state
      → StateFits world (step_at world (records held log) t state)
  log_step t state s = step_keeps world t state within s
