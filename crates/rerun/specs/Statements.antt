-- What is claimed of the program. proofs/Statements.antt proves each record whole.
use Rattle.std.specs.Prelude.{ℕ, ◌+◌, ◌<◌, ◌≤◌, ◌≡◌, true, false, List, [], ◌∷◌, ◌++◌, ℤ}
use Rattle.std.specs.Prelude.{length, take}
use Rattle.basis.specs.Numbers.{LOG, most_steps}
use Rattle.basis.specs.Order.{refused, accepted, answer}
use Rattle.record.specs.Buffer.{buffer_size}
use Rattle.record.specs.Log.{records_of, sound_log}
use Rattle.session.specs.Calls.{replay_order}
use Rattle.fleet.specs.State.{state_words}
use Rattle.fleet.specs.Examples.{practice, two_records}
use Rattle.rerun.specs.Ascii.{line}
use Rattle.rerun.specs.Rerun.{steps_past, end_of, program_order}
use Rattle.rerun.specs.declared.ended.Ended.{Ended}
use Rattle.rerun.specs.Text.{program_text}

-- 'The program', of every input.
pub record Program : Type 0 where
  -- 'more than 16,384 bytes of input, gives the one line `refused 13`'
  pub long : (input : List ℕ) → buffer_size < length input
      → answer (program_order input) ≡ refused LOG
  -- One byte more than a log has is read, and that is enough: what follows plays no part.
  pub enough : (input : List ℕ)
      → answer (program_order (take (buffer_size + 1) input)) ≡ answer (program_order input)
  -- 'A refused log ..': one that rule 13 refuses, for one carrier.
  pub unsound : (input : List ℕ) → sound_log practice.yard.b input ≡ false
      → answer (program_order input) ≡ refused LOG
  -- No other number is given.
  pub only : (input : List ℕ) (n : ℕ) → answer (program_order input) ≡ refused n → n ≡ LOG
  -- Any other is re-run to 'one step past the last record's step'.
  pub rerun : (input : List ℕ) → sound_log practice.yard.b input ≡ true
      → answer (program_order input) ≡ accepted (end_of (records_of input))
  -- A sound log is replayed: whatever the state held, replay of it gives this state.
  pub replayed : (input : List ℕ) (state : List ℤ) → length state ≡ state_words practice
      → sound_log practice.yard.b input ≡ true
      → answer (replay_order practice.yard (steps_past (records_of input))
      practice.cells practice.boxes state input)
      ≡ accepted (end_of (records_of input)).state
  -- It never asks for more steps than a session makes.
  pub steps : (input : List ℕ) (end : Ended) → answer (program_order input) ≡ accepted end
      → end.steps ≤ most_steps

-- 'Program, .. output whole'.
pub record Examples : Type 0 where
  -- 'records (0, 0, 1) and (2, 0, 9)'; 'the program's example, which now ends' so (02 §2).
  pub brake : program_text (answer (program_order two_records))
      ≡ line "steps 3" ++ line "0 50 256 14 0 9"
  -- 'Empty input: `steps 0`, then `0 0 256 0 0 0`.'
  pub empty : program_text (answer (program_order [])) ≡ line "steps 0" ++ line "0 0 256 0 0 0"
  -- 'the one line `refused 13`': a log of one byte.
  pub refused : program_text (answer (program_order (0 ∷ []))) ≡ line "refused 13"
