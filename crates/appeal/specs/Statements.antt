-- Document 02, §9, 'Two stations, one log', of sessions as in demand 3.
use Rattle.std.specs.Prelude.{ℕ, ◌*◌, ◌≡◌, ◌↔◌, ◌⊎◌, length, take, Result, Ok}
use mathlib.Core.List.{List, Memᴰ}
use Rattle.basis.specs.Filled.{Filled, filled}
use Rattle.basis.specs.LittleEndian.{Bytes}
use Rattle.basis.specs.declared.Refusal.{Refusal}
use Rattle.record.specs.Log.{records}
use Rattle.record.specs.declared.bytes.Record.{Record}
use Rattle.merge.specs.Says.{MergeLogsSays}
use Rattle.fleet.specs.State.{World}
use Rattle.course.specs.Calls.{Call}
use Rattle.demands.specs.Handed.{Handed, session_in, Reached, held_by, held_part}
use Rattle.appeal.specs.Delivered.{delivered_by, EndsAsReplay}

-- Of sessions on one world.
pub record Appeal (world : World) : Type 0 where
  -- A session holds exactly the records that were delivered to it and not refused.
  pub holds : (first : ℕ) (calls : List Call) (h : Handed) (reached : Reached world first calls h)
      (r : Record)
      → Memᴰ r (held_by h) ↔ Memᴰ r (delivered_by world reached.opening calls)
  -- 'A session as in demand 3 that holds exactly the records of the merged log ends as replay of
  -- the merged log, on its world, to its number of steps.'
  pub ends : (first : ℕ) (calls : List Call) (h : Handed) (one two before : List ℕ) (count : ℕ)
      (after : List ℕ) → Reached world first calls h → Bytes one → Bytes two
      → MergeLogsSays world.yard.b one two before (filled (Ok count) after)
      → ((r : Record) → Memᴰ r (held_by h) ↔ Memᴰ r (records count after))
      → EndsAsReplay world h (take (8 * count) after)
  -- Two stations' sessions j and k, each given its own driver's records, and a session h that was
  -- given both lists in any order: the merge of the two logs is accepted and leaves h's log and
  -- count, and h ends as replay of it.
  pub stations : (first second third : ℕ) (calls others both : List Call) (j k h : Handed)
      (one : Reached world first calls j) (two : Reached world second others k)
      (all : Reached world third both h)
      → ((r : Record) → Memᴰ r (delivered_by world all.opening both)
      ↔ (Memᴰ r (delivered_by world one.opening calls)
      ⊎ Memᴰ r (delivered_by world two.opening others)))
      → (before : List ℕ) (out : Filled (Result ℕ Refusal) ℕ) → length before ≡ 16384
      → MergeLogsSays world.yard.b (held_part j) (held_part k) before out
      → (out ≡ filled (Ok (session_in h).held) h.log)
      × EndsAsReplay world h (take (8 * (session_in h).held) out.out)
