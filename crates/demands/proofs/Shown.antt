-- The shown place of a carrier, of any session: what an acceptance says, and so where it lies.
use Prim.Native.Nat.{ℕ, ◌<◌}
use mathlib.Core.Path.{◌≡◌, sym, ◌∙◌}
use mathlib.Core.Bool.{true}
use mathlib.Core.List.{List}
use native.Mathlib.Omega.{arith}
use borrow.Author.Tests.{ltb-true}
use lib.IntN.{ℤ}
use mir.Syntax.{w32}
use mir.Val.{Fits, SFits}
use Rattle.basis.specs.Numbers.{step_length}
use Rattle.basis.specs.Order.{accepted, answer}
use Rattle.basis.proofs.Order.{held, given}
use Rattle.clock.proofs.Sound.{sound_says}
use Rattle.shown.specs.Answer.{shown_place}
use Rattle.shown.specs.declared.Place.{Place}
use Rattle.shown.proofs.Statements.{shown_place as laws}
use Rattle.yard.proofs.Signed.{small}
use Rattle.yard.proofs.Statements.{free}
use Rattle.fleet.specs.State.{World, carrier, sound_state}
use Rattle.fleet.specs.Fits.{WorldFits}
use Rattle.fleet.proofs.Carriers.{free_as_yard, each_free}
use Rattle.session.specs.declared.Session.{Session}
use Rattle.session.specs.Lent.{Lent, world_in}
use Rattle.session.specs.Calls.{shown_order, shown_of, previous}
use Rattle.session.proofs.Good.{good, world_fits}
use Rattle.demands.specs.Statements.{ShownBetween}

-- The coordinates of a carrier of a sound state are i32: it is free where it is.
place_fits : (world : World) → WorldFits world → (state : List ℤ) → sound_state world state ≡ true
    → (i : ℕ) → i < world.yard.b
    → SFits w32 (carrier i state).x × SFits w32 (carrier i state).y
place_fits world fits state e i h =
    let near = free.near _ _ _ _ _ fits.laid
    (sym (free_as_yard world i state _ _) ∙ each_free world state e i h) in
    (small _ (omega (arith, near.0)), small _ (omega (arith, near.1)))

module _ (session : Session) (l : Lent) (i : ℕ) (place : Place)
    (e : answer (shown_order session l i) ≡ accepted place) where
  pub shown : ShownBetween session l i place
  unfolding shown_order shown_of shown_place
  shown =
      let (s, e₁) = held _ _ _ e in
      let (below, e₂) = held _ _ _ e₁ in
      let (row, e₃) = held _ _ _ e₂ in
      let g = good session l s in
      let h = (sound_says g.clock).remainder in
      let long : Fits w32 step_length = record { fits = omega arith } in
      let fits = place_fits (world_in session l) (world_fits session l s) in
      let p = fits (previous session l) row i (ltb-true _ _ below) in
      let c = fits l.state g.state i (ltb-true _ _ below) in
      rw (← given _ e₃)
      (record {
        x = laws.coordinate step_length _ _ _ long h p.0 c.0;
        y = laws.coordinate step_length _ _ _ long h p.1 c.1;
      })
