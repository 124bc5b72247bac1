-- The words written so far stand behind the text that was there.
use Prim.Native.Nat.{◌+◌, ◌*◌, ◌≤◌}
use mathlib.Core.Path.{◌≡◌}
use mathlib.Core.List.{◌++◌}
use lib.ListN.{take}
use Rattle.std.specs.Prelude.{flat_map}
use Rattle.arrayvec.specs.ArrayString.{array_string_len}
use Rattle.rerun.specs.Text.{word_text}
use Rattle.rerun.proofs.text.lines.Given as goal

abbrev pub invariant-loop-z : goal.invariant-loop-z
invariant-loop-z l = record {
  text : l.text.bytes ≡ l.initial.text.bytes ++ flat_map word_text (take l.z-index l.z-items);
  room : array_string_len l.text ≤ array_string_len l.initial.text + 12 * l.z-index;
}
