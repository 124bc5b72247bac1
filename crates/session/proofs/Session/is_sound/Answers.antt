-- `Session::is_sound` meets its contract.
use Rattle.std.proofs.Common.{arith}
use Rattle.session.proofs.Room.{world_fitting}
use Rattle.session.specs.Lent.{lent_of}
use Rattle.session.proofs.Session.is_sound.Goals as goal

pub invariant_of-state_sound : goal.invariant_of-state_sound
invariant_of-state_sound c =
    record {
      fits = world_fitting _ (lent_of c.args.lent.now) (grind arith) (grind arith) (grind arith);
    }
