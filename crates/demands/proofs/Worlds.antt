-- A world by opening's order, number by number: with any test of lengths and anything behind it, so
-- of opening and of replay, and of the C face.
use Prim.Native.Nat.{ℕ}
use mathlib.Core.Path.{◌≡◌, refl}
use mathlib.Core.Logic.Iff
use mathlib.Core.Logic.{◌↔◌, ◌⊎◌, ◌≢◌, ⊎_elim, inl, inr}
use mathlib.Core.Bool.{Bool, true}
use mathlib.Core.List.{List}
use lib.IntN.{ℤ}
use Rattle.basis.specs.Numbers.{WORLD, ROOM}
use Rattle.basis.specs.Order.{Answer, refused, accepted, Order, check, answer, and_then}
use Rattle.basis.proofs.Ladder.{differs, here_iff, both_iff, run_iff, later_iff, pass_iff}
use Rattle.basis.proofs.Ladder.{lacks_check}
use Rattle.yard.specs.declared.world.Yard.{Yard}
use Rattle.yard.specs.Rule9.{ranges_hold, cells_hold, sizes_hold, starts_hold}
use Rattle.yard.specs.Facts.{InRange, CellsValid, SizesValid, StartsFree, Valid}
use Rattle.yard.proofs.Fits.{ranges, cells as cells-iff, sizes as sizes-iff, starts as starts-iff}
use Rattle.session.specs.Calls.{world_order}

module _ (yard : Yard) (cells : List ℕ) (boxes : List ℤ) {G : Type 0} {lengths : Bool}
    (g : (lengths ≡ true) ↔ G) {A : Type 0} (rest : Order A) where
  abbrev starts_order : Order A
  starts_order = check (starts_hold yard cells boxes) WORLD rest

  abbrev sizes_order : Order A
  sizes_order = check (sizes_hold yard boxes) WORLD starts_order

  abbrev cells_order : Order A
  cells_order = check (cells_hold cells) WORLD sizes_order

  abbrev room_order : Order A
  room_order = check lengths ROOM cells_order

  abbrev whole : Answer A
  whole = answer (and_then (world_order yard lengths cells boxes) (λ _. rest))

  tested : (a : Answer A) → (whole ≡ a) ↔ (answer (check (ranges_hold yard) WORLD room_order) ≡ a)
  unfolding world_order and_then
  tested a = (λ e. e, λ e. e)

  -- The three facts of a world that stand after the lengths.
  valid : (CellsValid cells × (SizesValid yard boxes × StartsFree yard cells boxes))
      ↔ Valid yard cells boxes
  valid = (
    λ (c, (z, s)). record { bytes = c; sizes = z; starts = s },
    λ v. (v.bytes, (v.sizes, v.starts)),
  )

  pub is_world : (answer rest ≡ refused 9 → ⊥) → (whole ≡ refused 9)
      ↔ ((InRange yard → ⊥) ⊎ (InRange yard × G × (Valid yard cells boxes → ⊥)))
  is_world lacks =
      Iff.trans (tested _) (Iff.trans
      (both_iff (ranges yard) WORLD room_order
      (later_iff g ROOM cells_order 9 (differs 10 9 refl)
      (run_iff (cells-iff cells) WORLD sizes_order
      (run_iff (sizes-iff yard boxes) WORLD starts_order
      (here_iff (starts-iff yard cells boxes) WORLD rest lacks))))) (
        ⊎_elim inl (λ (r, (m, n)). inr (r, m, λ v. n (valid.1 v))),
        ⊎_elim inl (λ (r, m, n). inr (r, (m, λ w. n (valid.0 w)))),
      ))

  pub is_room : (answer rest ≡ refused 10 → ⊥) → (whole ≡ refused 10) ↔ (InRange yard × (G → ⊥))
  is_room lacks =
      Iff.trans (tested _)
      (later_iff (ranges yard) WORLD room_order 10 (differs 9 10 refl)
      (here_iff g ROOM cells_order
      (lacks_check _ WORLD sizes_order (differs 9 10 refl)
      (lacks_check _ WORLD starts_order (differs 9 10 refl)
      (lacks_check _ WORLD rest (differs 9 10 refl) lacks)))))

  -- Another number, or an acceptance: the world passes, and what is behind it decides.
  module _ {Q : Type 0} where
    behind : (InRange yard × (G × (CellsValid cells × (SizesValid yard boxes
        × (StartsFree yard cells boxes × Q))))) ↔ (InRange yard × G × Valid yard cells boxes × Q)
    behind = (
      λ (r, (m, (c, (z, (s, q))))). (r, m, valid.0 (c, (z, s)), q),
      λ (r, m, v, q). let (c, (z, s)) = valid.1 v in (r, (m, (c, (z, (s, q))))),
    )

    pub is_behind : (n : ℕ) → 9 ≢ n → 10 ≢ n → (answer rest ≡ refused n) ↔ Q
        → (whole ≡ refused n) ↔ (InRange yard × G × Valid yard cells boxes × Q)
    is_behind n nine ten q =
        Iff.trans (tested _) (Iff.trans
        (later_iff (ranges yard) WORLD room_order n nine
        (later_iff g ROOM cells_order n ten
        (later_iff (cells-iff cells) WORLD sizes_order n nine
        (later_iff (sizes-iff yard boxes) WORLD starts_order n nine
        (later_iff (starts-iff yard cells boxes) WORLD rest n nine q)))))
        behind)

    pub is_passed : {a : A} → (answer rest ≡ accepted a) ↔ Q
        → (whole ≡ accepted a) ↔ (InRange yard × G × Valid yard cells boxes × Q)
    is_passed q =
        Iff.trans (tested _) (Iff.trans
        (pass_iff (ranges yard) WORLD room_order (pass_iff g ROOM cells_order
        (pass_iff (cells-iff cells) WORLD sizes_order
        (pass_iff (sizes-iff yard boxes) WORLD starts_order
        (pass_iff (starts-iff yard cells boxes) WORLD rest q)))))
        behind)
