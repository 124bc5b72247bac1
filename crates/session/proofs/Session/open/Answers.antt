-- `Session::open` meets its contract.
use Rattle.std.proofs.Common.{sym}
use Rattle.session.proofs.Openings.{opening_refused, opening_boxes, opening_state}
use Rattle.session.proofs.Session.open.Goals as goal

pub start-requires : goal.start-requires
start-requires c =
    let passed = sym (rw c.has_room.ensures.room at c.in_ok-check_world.ensures.order) in
    record { room = opening_boxes _ _ passed; words = opening_state _ _ passed }

pub returns-in_err-check_world : goal.returns-in_err-check_world
returns-in_err-check_world c =
    let failed = sym (rw c.has_room.ensures.room at c.in_err-check_world.ensures.order) in
    record { opened = opening_refused _ _ _ _ _ c.from_residual.ensures.1 failed }
