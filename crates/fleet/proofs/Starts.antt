-- The start: each carrier at rest where the world puts it, so sound where rule 9 accepts it; and a
-- log that rule 13 accepts fits.
use Prim.Native.Nat.{ℕ, zero, suc, ◌+◌, ◌*◌, ◌<◌}
use mathlib.Core.Path.{◌≡◌, ◌∙◌}
use mathlib.Core.List.{List}
use mathlib.Core.Logic.{⊎_elim}
use mathlib.Core.Bool.{true}
use native.Mathlib.Nat.{eq-or-lt_of_le, le_of_suc-le-suc}
use native.Mathlib.Omega.{arith}
use lib.IntN.{ℤ, pos}
use lib.ListN.{get_or-append}
use lib.Seq.{get_or-append-add}
use Rattle.record.specs.Log.{sound_log}
use Rattle.record.proofs.Logs.{sound}
use Rattle.yard.specs.declared.world.Yard.{Yard}
use Rattle.yard.specs.declared.carrier.Carrier.{Carrier}
use Rattle.yard.specs.Boxes.{word}
use Rattle.yard.specs.Rule9.{starts_hold}
use Rattle.yard.specs.Step.{at_rest}
use Rattle.yard.proofs.Every.{all_pass}
use Rattle.yard.proofs.Fits.{start_free}
use Rattle.yard.proofs.Soundness.{rest_sound}
use Rattle.fleet.specs.State.{World, world_of, carrier_words, carrier, words_of, free_for}
use Rattle.fleet.specs.State.{sound_state, start_to, start_state}
use Rattle.fleet.specs.Fits.{WholeLogFits, StateFits}
use Rattle.fleet.proofs.Words.{same_words, carrier_is, length_start}

-- Carrier i as it starts.
abbrev first : List ℤ → ℕ → Carrier
first boxes i = at_rest (word boxes i 0) (word boxes i 1)

-- The carrier that was put last, and those before it.
last_start : (boxes : List ℤ) (b : ℕ) → carrier b (start_to boxes (suc b)) ≡ first boxes b
unfolding start_to
last_start boxes b =
    carrier_is b (first boxes b) (start_to boxes (suc b))
    (λ j h.
    rw (length_start boxes b) at
    (get_or-append-add (start_to boxes b) (words_of (first boxes b)) j (pos 0)))

earlier_start : (boxes : List ℤ) (b i : ℕ) → i < b
    → carrier i (start_to boxes (suc b)) ≡ carrier i (start_to boxes b)
unfolding start_to
earlier_start boxes b i h =
    same_words i i (start_to boxes (suc b)) (start_to boxes b)
    (λ j l.
    get_or-append (start_to boxes b) (words_of (first boxes b)) (pos 0) (carrier_words * i + j)
    (omega (arith, length_start boxes b)))

-- 'At the start u, v and lever are 0': each carrier at rest where the world puts it.
pub carrier_start : (boxes : List ℤ) (b i : ℕ) → i < b
    → carrier i (start_to boxes b) ≡ first boxes i
carrier_start boxes zero i h = absurd (omega arith)
carrier_start boxes (suc b) i h =
    ⊎_elim (λ e. rw e (last_start boxes b))
    (λ l. earlier_start boxes b i l ∙ carrier_start boxes b i l)
    (eq-or-lt_of_le (le_of_suc-le-suc h))

-- Every start is free, so the start is sound.
pub start_sound : (world : World)
    → starts_hold world.yard world.cells world.boxes ≡ true
    → sound_state world (start_state world) ≡ true
unfolding sound_state free_for
start_sound world e =
    all_pass _ _
    (λ i l.
    rw (carrier_start world.boxes world.yard.b i l)
    (rest_sound _ _ _ (start_free world.yard world.cells world.boxes e i l)))

pub start_fits : (yard : Yard) (cells : List ℕ) (boxes : List ℤ)
    → starts_hold yard cells boxes ≡ true
    → StateFits (world_of yard cells boxes) (start_to boxes yard.b)
start_fits yard cells boxes e =
    record {
      room = length_start boxes yard.b;
      sound = start_sound (world_of yard cells boxes) e;
    }

-- A log that rule 13 lets pass, whole.
pub log_fits : (world : World) (log : List ℕ) → sound_log world.yard.b log ≡ true
    → WholeLogFits world log
log_fits world log e =
    let s = sound world.yard.b log e in
    record {
      few = s.few;
      room = omega arith;
      unrefused = s.unrefused;
      ascends = s.ascends;
    }
