-- Opening's order of a world: what passing it says, and that opening and replay answer by it first.
use Prim.Native.Nat.{ℕ, ◌*◌, ◌-◌, ◌<◌, ◌≤◌}
use native.Mathlib.Nat.{sub-zero}
use mathlib.Core.Path.{◌≡◌, refl, sym, ap, ◌∙◌}
use mathlib.Core.List.{List}
use mathlib.Core.Bool.{Bool, true, false}
use borrow.Author.Tests.{le-leb, lt-leb}
use lib.IntN.{ℤ, pos}
use lib.ListN.{length, replicate}
use Rattle.std.specs.Prelude.{Result, Ok, IsErrAnd}
use Rattle.basis.specs.Numbers.{LOG, STEP, most_steps}
use Rattle.basis.specs.Filled.{filled}
use Rattle.basis.specs.Order.{Answer, Order, answer, refused, accepted}
use Rattle.basis.proofs.Order.{held, given, gives, passes, fails, stops, goes_on, apart}
use Rattle.basis.specs.Refusal.{number_of, answer_of}
use Rattle.basis.specs.declared.Refusal.{Refusal}
use Rattle.clock.specs.Clock.{fresh}
use Rattle.clock.specs.declared.Clock.{Clock}
use Rattle.record.specs.Log.{records_of, sound_log}
use Rattle.yard.specs.declared.world.Yard.{Yard}
use Rattle.yard.specs.Boxes.{BoxesFit}
use Rattle.yard.specs.Rule9.{ranges_hold, cells_hold, sizes_hold, starts_hold}
use Rattle.fleet.specs.State.{world_of, carrier_words, start_to}
use Rattle.fleet.specs.Run.{run}
use Rattle.fleet.specs.Fits.{WorldFits, StateFits}
use Rattle.fleet.proofs.Starts.{start_fits}
use Rattle.yard.proofs.Fits.{cells_fit, boxes_fit}
use Rattle.session.specs.declared.Session.{Session}
use Rattle.session.specs.Answers.{replay_leaves}
use Rattle.session.specs.Lent.{Lent, Made, made, as_before, tells, leaves}
use Rattle.session.specs.Sound.{world_room, room}
use Rattle.session.specs.Calls.{world_order, opened, open_order, replay_order}
use Rattle.session.proofs.Facts.{lengths_fit, room_fits}
use Rattle.session.proofs.Refused.{refuses, handed_on}
use Rattle.session.proofs.Room.{boxes_fitting, cells_long, boxes_long, state_long}

-- Each test passed.
pub record Passes (yard : Yard) (lengths : Bool) (cells : List ℕ) (boxes : List ℤ) : Type 0 where
  pub ranges : ranges_hold yard ≡ true
  pub long : lengths ≡ true
  pub cell : cells_hold cells ≡ true
  pub sizes : sizes_hold yard boxes ≡ true
  pub starts : starts_hold yard cells boxes ≡ true

pub passes_say : (yard : Yard) (lengths : Bool) (cells : List ℕ) (boxes : List ℤ)
    → answer (world_order yard lengths cells boxes) ≡ accepted tt → Passes yard lengths cells boxes
unfolding world_order
passes_say yard lengths cells boxes e =
    let a = held _ _ _ e in
    let b = held _ _ _ a.1 in
    let c = held _ _ _ b.1 in
    let d = held _ _ _ c.1 in
    let f = held _ _ _ d.1 in
    record { ranges = a.0; long = b.0; cell = c.0; sizes = d.0; starts = f.0 }

-- What passing it says of the lengths.
module _ (yard : Yard) (l : Lent)
    (e : answer (world_order yard (room yard l) l.cells l.boxes) ≡ accepted tt) where
  pub opening_boxes : BoxesFit yard l.boxes
  opening_boxes = let p = passes_say _ _ _ _ e in boxes_fitting yard l p.ranges p.long

  pub opening_state : length l.state ≡ carrier_words * yard.b
  opening_state = state_long yard l (passes_say _ _ _ _ e).long

-- And what opening then leaves.
pub opening_left : (yard : Yard) (reading : ℕ) (l : Lent)
    → answer (world_order yard (room yard l) l.cells l.boxes) ≡ accepted tt
    → (clock : Clock) (state rows : List ℤ) (log : List ℕ) → clock ≡ fresh reading
    → state ≡ start_to l.boxes yard.b → rows ≡ replicate (length l.rows) (pos 0)
    → log ≡ replicate (length l.log) 0
    → tells answer_of (made (Ok (record { yard = yard; clock = clock; held = 0 })) state rows log)
    ≡ leaves l (answer (open_order yard reading l))
unfolding open_order
opening_left yard reading l e clock state rows log p q r s =
    let long = (room_fits yard l).0 (passes_say _ _ _ _ e).long in
    rw (p, q, r, s, long.row_words, long.log_bytes)
    (sym (ap (leaves l) (goes_on _ _ e ∙ gives (opened yard reading l))))

-- Opening.
module _ (yard : Yard) (reading : ℕ) (l : Lent) where
  open_refuses : {number : ℕ}
      → answer (world_order yard (room yard l) l.cells l.boxes) ≡ refused number
      → answer (open_order yard reading l) ≡ refused number
  unfolding open_order
  open_refuses e = stops _ _ e

  pub opening_refused : (r : Result Session Refusal) (why : Refusal) → IsErrAnd r (λ e. e ≡ why)
      → answer (world_order yard (room yard l) l.cells l.boxes) ≡ refused (number_of why)
      → tells answer_of (as_before r l) ≡ leaves l (answer (open_order yard reading l))
  opening_refused r why h e = refuses l r why h (open_refuses e)

  pub open_gives : answer (world_order yard (room yard l) l.cells l.boxes) ≡ accepted tt
      → answer (open_order yard reading l) ≡ accepted (opened yard reading l)
  unfolding open_order
  open_gives e = goes_on _ _ e ∙ gives _

  -- What an accepted opening says.
  pub opened_says : {made : Made Session} → answer (open_order yard reading l) ≡ accepted made
      → Passes yard (room yard l) l.cells l.boxes × (opened yard reading l ≡ made)
  opened_says {made} e = go (answer (world_order yard (room yard l) l.cells l.boxes)) refl
    where
      go : (a : Answer (Unit {0}))
          → answer (world_order yard (room yard l) l.cells l.boxes) ≡ a
          → Passes yard (room yard l) l.cells l.boxes × (opened yard reading l ≡ made)
      go (refused number) q = apart (sym (open_refuses q) ∙ e)
      go (accepted tt) q = (
        passes_say yard (room yard l) l.cells l.boxes q,
        given _ (gives _ ∙ sym (open_gives q) ∙ e),
      )

-- A world that passes replay's lengths, as what is run over it requires.
module _ (yard : Yard) (cells : List ℕ) (boxes state : List ℤ)
    (e : answer (world_order yard (world_room yard (length cells) (length boxes) (length state))
    cells boxes) ≡ accepted tt) where
  pub replay_boxes : BoxesFit yard boxes
  replay_boxes =
      let p = passes_say _ _ _ _ e in
      boxes_fit yard p.ranges boxes ((lengths_fit yard cells boxes state).0 p.long).world_words

  pub replay_state : length state ≡ carrier_words * yard.b
  replay_state =
      ((lengths_fit yard cells boxes state).0 (passes_say _ _ _ _ e).long).state_words

  pub replay_world : WorldFits (world_of yard cells boxes)
  replay_world =
      let p = passes_say _ _ _ _ e in
      let long = (lengths_fit yard cells boxes state).0 p.long in
      record {
        laid = cells_fit yard p.ranges cells long.cell_bytes;
        room = replay_boxes;
        sizes = p.sizes;
      }

  pub replay_start : StateFits (world_of yard cells boxes) (start_to boxes yard.b)
  replay_start = start_fits yard cells boxes (passes_say _ _ _ _ e).starts

-- Replay.
module _ (yard : Yard) (steps : ℕ) (cells : List ℕ) (boxes state : List ℤ) (log : List ℕ) where
  abbrev first : Order (Unit {0})
  first =
      world_order yard (world_room yard (length cells) (length boxes) (length state)) cells boxes

  abbrev replays : Answer (List ℤ)
  replays = answer (replay_order yard steps cells boxes state log)

  pub replay_refused : (r : Result (Unit {0}) Refusal) (why : Refusal) → IsErrAnd r (λ e. e ≡ why)
      → answer first ≡ refused (number_of why)
      → filled (answer_of r) state ≡ replay_leaves state replays
  unfolding replay_order
  replay_refused r why h e =
      rw (handed_on r h) (sym (ap (replay_leaves state) (stops _ _ e)))

  module _ (e : answer first ≡ accepted tt) where
    pub log_refused : sound_log yard.b log ≡ false → replays ≡ refused LOG
    unfolding replay_order
    log_refused f = goes_on _ _ e ∙ fails _ _ f

    module _ (f : sound_log yard.b log ≡ true) where
      pub steps_refused : most_steps < steps → replays ≡ refused STEP
      unfolding replay_order
      steps_refused h = goes_on _ _ e ∙ passes _ _ f ∙ fails _ _ (lt-leb _ _ h)

      pub replay_left : steps ≤ most_steps → {after : List ℤ}
          → after
          ≡ run (world_of yard cells boxes) (records_of log) 0 (steps - 0) (start_to boxes yard.b)
          → filled (accepted tt) after ≡ replay_leaves state replays
      unfolding replay_order
      replay_left h ran =
          ap (filled (accepted tt)) (ran ∙ rw sub-zero)
          ∙ sym
          (ap (replay_leaves state)
          (goes_on _ _ e ∙ passes _ _ f ∙ passes _ _ (le-leb _ _ h) ∙ gives _))

-- What the check of `check_world` is told.
pub ruleset tests = (passes, fails, gives, cells_fit, boxes_fit)

-- And that of `Session::open`.
pub ruleset opening = (cells_long, boxes_long, opening_left)
