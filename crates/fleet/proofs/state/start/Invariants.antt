use Prim.Native.Nat.{◌*◌}
use mathlib.Core.List.{◌++◌}
use mathlib.Core.Path.{◌≡◌}
use lib.ListN.{drop}
use Rattle.fleet.specs.State.{start_to, carrier_words}
use Rattle.fleet.proofs.state.start.Given as goal

abbrev pub invariant-loop-i : goal.invariant-loop-i
invariant-loop-i l = l.state ≡ start_to l.boxes l.i ++ drop (carrier_words * l.i) l.initial.state
