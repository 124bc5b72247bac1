-- Document 02, §9, 'Two stations, one log', of `wuthracomb_merge`. A fact compares numbers or
-- lengths, or is one of the facts of `record` and `merge`.
use Rattle.std.specs.Prelude.{ℕ, ◌<◌, ◌≢◌, List, [], ◌∷◌, length}
use Rattle.basis.specs.LittleEndian.{Bytes}
use Rattle.record.specs.Facts.{LogValid}
use Rattle.record.specs.Buffer.{buffer_of}
use Rattle.merge.specs.Facts.{Few, Differ}
use Rattle.merge.specs.Merge.{both_of}
use Rattle.station.specs.Left.{Counted, counted}
use Rattle.station.specs.Says.{MergeSays}
use Rattle.face.specs.Table.{Table, ◌when◌or◌, done, Answers}

-- `wuthracomb_merge`: 'Refusals in this order'.
abbrev pub merge_numbers : ℕ → List ℕ → List ℕ → List ℕ → List ℕ → Table
merge_numbers b one two out count =
    -- 'if B is out of range'
    9 when (Few b → ⊥) or
    -- 'for the buffer', and the word of the count
    10 when (length count ≢ 1) or
    10 when (length out ≢ 16384) or
    -- 'for either log'
    13 when (LogValid b one → ⊥) or
    13 when (LogValid b two → ⊥) or
    -- 'if any place has different levers'
    6 when Differ one two or
    -- 'if the result would pass 2,048'
    8 when (2048 < length (both_of one two)) or
    done 255

-- Of whatever the contract allows.
pub record OneLog : Type 0 where
  -- Merged: 'exactly the records of both, in log order, zeros after, with the count'.
  pub merge : (b : ℕ) (one two out count : List ℕ) (left : Counted) → Bytes one → Bytes two
      → MergeSays b one two out count left
      → Answers 2 (merge_numbers b one two out count) left.number left
      (counted left.number out count)
      (counted 255 (buffer_of (both_of one two)) (length (both_of one two) ∷ []))
