-- `show::shown` meets its contract.
use Rattle.std.proofs.Common.{sym}
use Rattle.session.proofs.Good.{carriers_most, world_fits, rows_fit}
use Rattle.session.proofs.Showing.{first_shown}
use Rattle.session.proofs.show.shown.Goals as goal

pub invariant_of-rows : goal.invariant_of-rows
invariant_of-rows c =
    let ok = sym c.if-not-is_sound.ensures.sound in
    record { few = carriers_most _ _ ok; room = rows_fit _ _ ok }

pub row_sound-requires : goal.row_sound-requires
row_sound-requires c =
    let ok = sym c.if-not-is_sound.ensures.sound in
    record { world = world_fits _ _ ok; room = rows_fit _ _ ok }

pub returns-then-steps-eq0 : goal.returns-then-steps-eq0
returns-then-steps-eq0 c =
    record {
      shown =
          first_shown _ _ _ (sym c.if-not-is_sound.ensures.sound) c.if-carrier-yard.false
          c.if-steps-eq0.true _ _ c.load-present.ensures.loaded c.between.ensures.placed;
    }
