-- What is read lies within the buffer, and each read that gives something leaves less of it.
use Rattle.std.proofs.Common.{length, ◌-◌, ◌≡◌, ◌≤◌}
use Rattle.input.proofs.read_input.Given as goal

abbrev pub invariant-loop-n : goal.invariant-loop-n
invariant-loop-n g l = (l.n ≤ length l.buffer) × (length l.buffer ≡ length l.fn.buffer)

abbrev pub decreases-loop-n : goal.decreases-loop-n
decreases-loop-n g l = length l.buffer - l.n
