-- `slide` meets its contract: where it moves from is near.
use Rattle.std.proofs.Common.{arith}
use Rattle.yard.proofs.Signed.{words}
use Rattle.yard.proofs.Squares.{near}
use Rattle.yard.proofs.Walk.{on_abs, distance_most}
use Rattle.yard.proofs.world.Ground.slide.Goals as goal

pub toward-requires : goal.toward-requires
toward-requires c =
    let n = near _ _ _ _ _ c.args.self.now.laid c.requires.stands in
    record { near = grind (arith, words, on_abs, distance_most) }
