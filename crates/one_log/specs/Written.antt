-- What the program makes of two logs. 'Log soundness asked without a world takes B as 32.'
use Rattle.std.specs.Prelude.{ℕ, List, [], ◌∷◌}
use Rattle.basis.specs.Numbers.{most_carriers}
use Rattle.basis.specs.Order.{Answer, refused, accepted, Order}
use Rattle.record.specs.Buffer.{buffer_size}
use Rattle.record.specs.Log.{log_of}
use Rattle.record.specs.declared.bytes.Record.{Record}
use Rattle.merge.specs.Calls.{merge_order}

-- What two logs come to, merged for 32 carriers into a buffer of 16,384 bytes.
abbrev pub program_order : List ℕ → List ℕ → Order (List Record)
program_order one two = merge_order most_carriers buffer_size one two

-- The merged log; or the number, as one byte, which is no log.
abbrev pub written : Answer (List Record) → List ℕ
written (accepted l) = log_of l
written (refused number) = number ∷ []
