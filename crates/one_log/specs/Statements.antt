-- What is claimed of the program. proofs/Statements.antt proves each record whole.
use Rattle.std.specs.Prelude.{ℕ, ◌+◌, ◌*◌, ◌≡◌, ◌⊎◌, List, length, take}
use Rattle.basis.specs.Order.{refused, accepted, answer}
use Rattle.record.specs.Buffer.{buffer_size}
use Rattle.record.specs.declared.bytes.Record.{Record}
use Rattle.one_log.specs.Written.{program_order, written}

-- The program, of every two files.
pub record Program : Type 0 where
  -- No other number is given: '13 for either log, 6 if any place has different levers, 8 if the
  -- result would pass 2,048'.
  pub only : (one two : List ℕ) (n : ℕ) → answer (program_order one two) ≡ refused n
      → (n ≡ 13) ⊎ (n ≡ 6) ⊎ (n ≡ 8)
  -- What is written of a merged log is eight bytes for each record; a refusal is one byte.
  pub whole : (l : List Record) → length (written (accepted l)) ≡ 8 * length l
  -- One byte more than a log has is read of each, and that is enough: what follows plays no part.
  pub enough : (one two : List ℕ)
      → answer (program_order (take (buffer_size + 1) one) (take (buffer_size + 1) two))
      ≡ answer (program_order one two)
