-- `step` meets its contract: what its parts rest on holds of a sound carrier.
use Rattle.std.proofs.Common.{arith}
use Rattle.yard.specs.Free.{free_on}
use Rattle.yard.proofs.Signed.{words}
use Rattle.yard.proofs.Soundness.{stepped}
use Rattle.yard.proofs.world.Ground.step.Goals as goal

pub new_speed-u-requires : goal.new_speed-u-requires
new_speed-u-requires c =
    let a = c.args in
    let facts = stepped (free_on a.self.now) a.held a.carrier c.requires.table c.requires.sound in
    record { sound = grind (arith, words) }

pub new_speed-v-requires : goal.new_speed-v-requires
new_speed-v-requires c =
    let a = c.args in
    let facts = stepped (free_on a.self.now) a.held a.carrier c.requires.table c.requires.sound in
    record { sound = grind (arith, words) }

pub slide-along_x-requires : goal.slide-along_x-requires
slide-along_x-requires c =
    let a = c.args in
    let facts = stepped (free_on a.self.now) a.held a.carrier c.requires.table c.requires.sound in
    record { slow = grind (arith, words); stands = grind (arith, words) }
