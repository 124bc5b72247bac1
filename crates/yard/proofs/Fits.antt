-- Laws of rule 9: what each part says, both ways, and so the facts that functions over a world
-- require.
use Prim.Native.Nat.{ℕ, ◌*◌, ◌≤◌, ◌<◌}
use mathlib.Core.Path.{◌≡◌, refl}
use mathlib.Core.Bool.{true}
use mathlib.Core.List.{List}
use mathlib.Core.Logic.Iff
use mathlib.Core.Logic.{◌↔◌}
use native.Mathlib.Omega.{arith}
use lib.IntN.{ℤ, pos, negsuc}
use lib.ListN.{get_or, length}
use Rattle.basis.specs.Numbers.{most_carriers}
use Rattle.basis.proofs.Tests.{never, says_le, says_two, says_three}
use Rattle.yard.specs.declared.world.Yard.{Yard}
use Rattle.yard.specs.Ranges.{between, from_one}
use Rattle.yard.specs.Boxes.{word, size_of, CellsFit, BoxesFit, SizeFits}
use Rattle.yard.specs.Free.{free}
use Rattle.yard.specs.Rule9.{ranges_hold, cells_hold, size_holds, sizes_hold, start_holds}
use Rattle.yard.specs.Rule9.{starts_hold}
use Rattle.yard.specs.Facts.{InRange, CellsValid, FromTo, SizesValid, StartsFree}
use Rattle.yard.proofs.Every.{passes, each}
use Rattle.yard.proofs.Squares.{free_at}

says_from_one : (n most : ℕ) → (from_one n most ≡ true) ↔ ((1 ≤ n) × (n ≤ most))
says_from_one n most = says_two (says_le 1 n) (says_le n most)

pub from_to : (low high : ℕ) (z : ℤ) → (between (pos low) z (pos high) ≡ true) ↔ FromTo low high z
unfolding between
from_to low high (pos n) =
    let both = says_two (says_le low n) (says_le n high) in (
      λ e. let h = both.0 e in (n, refl, h.0, h.1),
      λ (m, e, l, h). let same : n ≡ m = cc in both.1 (omega arith, omega arith),
    )
from_to low high (negsuc n) = (
  λ e. never e refl,
  λ (m, e, l, h). let z : ◌≡◌ {A = ℕ} 0 1 = cc in absurd (omega arith),
)

-- Ranges, cells, sizes and starts, each both ways.
pub ranges : (yard : Yard) → (ranges_hold yard ≡ true) ↔ InRange yard
unfolding ranges_hold
ranges yard =
    Iff.trans
    (says_three (says_from_one yard.w 64) (says_from_one yard.h 64) (says_from_one yard.b most_carriers))
    (λ (w, h, b). record { w = w; h = h; b = b }, λ f. (f.w, f.h, f.b))

pub cells : (cells : List ℕ) → (cells_hold cells ≡ true) ↔ CellsValid cells
unfolding cells_hold
cells list = each _ (length list) (λ i. says_le (get_or list i 0) 1)

pub sizes : (yard : Yard) (boxes : List ℤ) → (sizes_hold yard boxes ≡ true) ↔ SizesValid yard boxes
unfolding sizes_hold size_holds
sizes yard boxes =
    each _ yard.b
    (λ i. says_two (from_to 1 1024 (word boxes i 2)) (from_to 1 1024 (word boxes i 3)))

pub starts : (yard : Yard) (cells : List ℕ) (boxes : List ℤ)
    → (starts_hold yard cells boxes ≡ true) ↔ StartsFree yard cells boxes
unfolding starts_hold start_holds
starts yard cells boxes = each _ yard.b (λ i. free_at yard cells _ _ _)

-- Ranges and lengths fit the cells and the boxes.
module _ (yard : Yard) (e : ranges_hold yard ≡ true) where
  pub cells_fit : (cells : List ℕ) → length cells ≡ yard.w * yard.h → CellsFit yard cells
  cells_fit cells room =
      let within = (ranges yard).0 e in
      record { w = within.w.1; h = within.h.1; room = room }

  pub boxes_fit : (boxes : List ℤ) → length boxes ≡ 4 * yard.b → BoxesFit yard boxes
  boxes_fit boxes room = record { b = ((ranges yard).0 e).b.1; room = room }

-- Sizes that hold fit, and starts that hold are free.
pub sizes_fit : (yard : Yard) (boxes : List ℤ) → sizes_hold yard boxes ≡ true
    → (i : ℕ) → i < yard.b → SizeFits (size_of boxes i)
unfolding size_of
sizes_fit yard boxes e i l =
    let ((w, p, wl, wh), (h, q, hl, hh)) = (sizes yard boxes).0 e i l in
    rw (p, q) (record { w_low = wl; w_high = wh; h_low = hl; h_high = hh })

pub start_free : (yard : Yard) (cells : List ℕ) (boxes : List ℤ)
    → starts_hold yard cells boxes ≡ true → (i : ℕ) → i < yard.b
    → free yard cells (size_of boxes i) (word boxes i 0) (word boxes i 1) ≡ true
unfolding starts_hold start_holds
start_free yard cells boxes = passes _ yard.b
