-- The ways through a merge of the C face, and what it leaves.
use Prim.Native.Nat.{ℕ}
use mathlib.Core.Path.{◌≡◌, refl, sym, ap, ◌∙◌}
use mathlib.Core.Bool.{Bool, true, false}
use mathlib.Core.List.{List, [], ◌∷◌}
use lib.ListN.{length}
use borrow.Author.Tests.{eq-eqb, ne_eqb}
use Rattle.basis.specs.Filled.{Filled, filled}
use Rattle.basis.specs.Numbers.{WORLD, ROOM}
use Rattle.basis.specs.Order.{Answer, refused, accepted, answer}
use Rattle.basis.proofs.Order.{passes, fails}
use Rattle.record.specs.declared.bytes.Record.{Record}
use Rattle.merge.specs.Calls.{carriers_hold, merge_order, merge_leaves}
use Rattle.merge.proofs.Orders.{no_carriers, told_no_room}
use Rattle.station.specs.Face.{merge_face}
use Rattle.station.specs.Left.{DONE, Counted, counted, leaves_merged}

-- What the C face makes of an answer of `merge`.
abbrev pub as_counted : List ℕ → List ℕ → Answer ℕ → Counted
as_counted count out (refused number) = counted number out count
as_counted count out (accepted records) = counted DONE out (records ∷ [])

as_left : (count before : List ℕ) (a : Answer (List Record))
    → as_counted count (merge_leaves before a).out (merge_leaves before a).answer
    ≡ leaves_merged before count a
as_left count before (refused number) = refl
as_left count before (accepted l) = refl

module _ (b : ℕ) (one two out count : List ℕ) where
  pub wrong_b : carriers_hold b ≡ false → answer (merge_face b one two out count) ≡ refused WORLD
  unfolding merge_face
  wrong_b e = fails _ _ e

  module _ (few : carriers_hold b ≡ true) where
    pub wrong_count : (length count ≡ 1 → ⊥)
        → answer (merge_face b one two out count) ≡ refused ROOM
    unfolding merge_face
    wrong_count h = passes _ _ few ∙ fails _ _ (ne_eqb _ _ h)

    pub wrong_buffer : length count ≡ 1 → (length out ≡ 16384 → ⊥)
        → answer (merge_face b one two out count) ≡ refused ROOM
    unfolding merge_face
    wrong_buffer long h =
        passes _ _ few ∙ passes _ _ (eq-eqb _ _ long) ∙ told_no_room b (length out) one two few h

  -- A merge tests B first, so the face's own test of it changes nothing.
  pub merges : length count ≡ 1
      → answer (merge_face b one two out count) ≡ answer (merge_order b (length out) one two)
  unfolding merge_face
  merges long = go (carriers_hold b) refl
    where
      go : (t : Bool) → carriers_hold b ≡ t
          → answer (merge_face b one two out count) ≡ answer (merge_order b (length out) one two)
      go false e = fails _ _ e ∙ sym (no_carriers b (length out) one two e)
      go true e = passes _ _ e ∙ passes _ _ (eq-eqb _ _ long)

  pub merging_leaves : (after : List ℕ) (a : Answer ℕ) → length count ≡ 1
      → filled a after ≡ merge_leaves out (answer (merge_order b (length out) one two))
      → as_counted count after a
      ≡ leaves_merged out count (answer (merge_face b one two out count))
  merging_leaves after a long e =
      ap (λ (o : Filled (Answer ℕ) ℕ). as_counted count o.out o.answer) e
      ∙ as_left count out (answer (merge_order b (length out) one two))
      ∙ ap (leaves_merged out count) (sym (merges long))
