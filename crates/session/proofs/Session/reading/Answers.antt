-- `Session::reading` meets its contract.
use Rattle.std.proofs.Common.{sym}
use Rattle.session.proofs.Good.{held_long, world_fits, log_fits, state_fits, rows_fit}
use Rattle.session.proofs.Readings.{reading_refused, reading_left}
use Rattle.session.proofs.Session.reading.Goals as goal

pub returns-in_err-given : goal.returns-in_err-given
returns-in_err-given c =
    let ok = sym c.if-not-is_sound.ensures.sound in
    let failed = sym c.in_err-given.ensures.ticked in
    record { read = reading_refused _ _ _ ok _ _ c.from_residual.ensures.1 failed }

pub slice_bounds-held-end : goal.slice_bounds-held-end
slice_bounds-held-end c = sym (held_long _ _ (sym c.if-not-is_sound.ensures.sound))

pub invariant_of-site : goal.invariant_of-site
invariant_of-site c = record { fits = world_fits _ _ (sym c.if-not-is_sound.ensures.sound) }

pub run_saving-requires : goal.run_saving-requires
run_saving-requires c =
    let ok = sym c.if-not-is_sound.ensures.sound in
    record { log = log_fits _ _ ok; sound = state_fits _ _ ok; room = rows_fit _ _ ok }

pub returns : goal.returns
returns c =
    let ok = sym c.if-not-is_sound.ensures.sound in
    let gave = sym c.in_ok-given.ensures.ticked in
    record { read = reading_left _ _ _ ok _ gave _ _ c.run_saving.ensures.ran }
