-- Laws of `free`: the covered cells decide, and they are those of the box's unit squares.
use Prim.Native.Nat.{ℕ, ◌+◌, ◌*◌, ◌/◌, ◌<◌, ◌≤◌, max, min}
use mathlib.Core.Path.{◌≡◌, refl, ◌∙◌}
use mathlib.Core.Bool.{true, false, not, ◌&&◌}
use mathlib.Core.List.{List}
use mathlib.Core.Logic.{⊎_elim, ◌↔◌, ◌≢◌}
use native.Mathlib.Omega.{arith}
use borrow.Author.Tests.{lt-ltb, ltb-true, le-leb, lt-leb, leb-true, eqb-false, ne_eqb}
use lib.Dec.{leb}
use lib.IntN.{ℤ, pos, negsuc, nat_abs}
use lib.ListN.{get_or}
use lib.Signed.{lt_z}
use Rattle.std.specs.Prelude.{Option, None, Some, is_some}
use Rattle.basis.proofs.Tests.{never, and_both, and_left, and_right, not_left, not_right}
use Rattle.yard.specs.declared.world.Yard.{Yard}
use Rattle.yard.specs.declared.world.Size.{Size}
use Rattle.yard.specs.declared.place.Block.{Block}
use Rattle.yard.specs.declared.place.Cell.{Cell}
use Rattle.yard.specs.Boxes.{CellsFit, SizeFits}
use Rattle.yard.specs.Free.{wall, share, covers, no_wall, free}
use Rattle.yard.specs.Search.{InBlock, Open, FirstInBlock, Finds, block_of}
use Rattle.yard.specs.Facts.{Clear, FreeAt}
use Rattle.yard.proofs.Cases.{either, not_both, both_not}
use Rattle.yard.proofs.Every.{all_pass, passes}

-- The first unit that a span shares with a cell.
abbrev shared : ℕ → ℕ → ℕ
shared a c = max a (256 * c)

share_unit : (a m c : ℕ) → share a m (256 * c) 256 ≡ true
    → (a ≤ shared a c) × (shared a c < a + m) × (shared a c / 256 ≡ c)
unfolding share
share_unit a m c e =
    let h = ltb-true (max a (256 * c)) (min (a + m) (256 * c + 256)) e in
    (omega arith, omega arith, omega arith)

-- A unit of the span lies in a cell that shares it.
unit_share : (a m p : ℕ) → a ≤ p → p < a + m → share a m (256 * (p / 256)) 256 ≡ true
unfolding share
unit_share a m p l h =
    lt-ltb (max a (256 * (p / 256))) (min (a + m) (256 * (p / 256) + 256)) (omega arith)

module _ (size : Size) (x y : ℕ) where
  -- The covered cells are the block.
  covered : (column row : ℕ) → covers size x y column row ≡ true
      → InBlock (block_of size x y) column row
  unfolding covers
  covered column row e =
      let across = share x size.w (256 * column) 256 in
      let down = share y size.h (256 * row) 256 in
      let h = share_unit x size.w column (and_left across down e) in
      let k = share_unit y size.h row (and_right across down e) in
      omega arith

  in_block : SizeFits size → (column row : ℕ) → InBlock (block_of size x y) column row
      → covers size x y column row ≡ true
  unfolding covers share
  in_block s column row h =
      and_both
      (lt-ltb (max x (256 * column)) (min (x + size.w) (256 * column + 256)) (omega arith))
      (lt-ltb (max y (256 * row)) (min (y + size.h) (256 * row + 256)) (omega arith))

module _ (yard : Yard) (cells : List ℕ) (size : Size) (x y : ℕ) where
  -- No covered cell is a wall, as a fact of each cell.
  no_wall_is : ((column row : ℕ) → covers size x y column row ≡ true
      → wall yard cells column row ≡ false) → no_wall yard cells size x y ≡ true
  unfolding no_wall
  no_wall_is h =
      all_pass _ yard.h
      (λ row r. all_pass _ yard.w
      (λ column c.
      not_both (wall yard cells column row) (covers size x y column row) (h column row)))

  no_wall_at : no_wall yard cells size x y ≡ true → (column row : ℕ) → column < yard.w
      → row < yard.h → covers size x y column row ≡ true → wall yard cells column row ≡ false
  unfolding no_wall
  no_wall_at e column row c r h =
      both_not (wall yard cells column row) (covers size x y column row)
      (passes _ yard.w (passes _ yard.h e row r) column c) h

  -- What free says, part by part.
  inside : free yard cells size (pos x) (pos y) ≡ true
      → (x + size.w ≤ 256 * yard.w) × (y + size.h ≤ 256 * yard.h)
      × (no_wall yard cells size x y ≡ true)
  unfolding free
  inside e =
      let right = leb (x + size.w) (256 * yard.w) in
      let bottom = leb (y + size.h) (256 * yard.h) in
      let edges = and_left (right && bottom) (no_wall yard cells size x y) e in (
        leb-true (x + size.w) (256 * yard.w) (and_left right bottom edges),
        leb-true (y + size.h) (256 * yard.h) (and_right right bottom edges),
        and_right (right && bottom) (no_wall yard cells size x y) e,
      )

  -- Past an edge the box is not free.
  pub past_right : 256 * yard.w < x + size.w → free yard cells size (pos x) (pos y) ≡ false
  unfolding free
  past_right h = rw (lt-leb (x + size.w) (256 * yard.w) h)

  pub past_bottom : 256 * yard.h < y + size.h → free yard cells size (pos x) (pos y) ≡ false
  unfolding free
  past_bottom h =
      not_left _ (no_wall yard cells size x y)
      (not_right (leb (x + size.w) (256 * yard.w)) _ (lt-leb (y + size.h) (256 * yard.h) h))

  -- Within the edges the walls decide, and of them those of the block.
  module _ (right : x + size.w ≤ 256 * yard.w) (bottom : y + size.h ≤ 256 * yard.h) where
    within : free yard cells size (pos x) (pos y) ≡ no_wall yard cells size x y
    unfolding free
    within =
        rw (
          le-leb (x + size.w) (256 * yard.w) right,
          le-leb (y + size.h) (256 * yard.h) bottom,
        )

    none_met : Open yard cells (block_of size x y)
        → free yard cells size (pos x) (pos y) ≡ true
    none_met h = within ∙ no_wall_is (λ column row e. h column row (covered size x y column row e))

    wall_met : SizeFits size → (column row : ℕ) → InBlock (block_of size x y) column row
        → wall yard cells column row ≡ true → free yard cells size (pos x) (pos y) ≡ false
    wall_met s column row h e =
        let under = in_block size x y s column row h in
        within
        ∙ ⊎_elim (λ p. never e (no_wall_at p column row (omega arith) (omega arith) under)) (λ p. p)
        (either (no_wall yard cells size x y))

    -- What the search of the block's cells met decides.
    pub searched : SizeFits size → (block : Block) → block ≡ block_of size x y
        → (met : Option Cell) → Finds yard cells block met
        → free yard cells size (pos x) (pos y) ≡ not (is_some met)
    searched s block e None f = none_met (rw e at f)
    searched s block e (Some cell) f =
        let here : FirstInBlock yard cells (block_of size x y) cell.column cell.row = rw e at f in
        wall_met s cell.column cell.row here.inside here.there

  -- A cell is no wall where its byte isn't 1.
  no_byte : (column row : ℕ)
      → (wall yard cells column row ≡ false) ↔ (get_or cells (row * yard.w + column) 0 ≢ 1)
  unfolding wall
  no_byte column row = (eqb-false _ _, ne_eqb _ _)

  -- Free is clear, both ways.
  free_clear : free yard cells size (pos x) (pos y) ≡ true → Clear yard cells size x y
  unfolding covers
  free_clear e =
      let h = inside e in
      record {
        right = h.0;
        bottom = h.1;
        squares = λ p q xp px yq qy.
            (no_byte (p / 256) (q / 256)).0 (no_wall_at h.2 (p / 256) (q / 256)
            (omega arith) (omega arith)
            (and_both (unit_share x size.w p xp px) (unit_share y size.h q yq qy)));
      }

  clear_free : Clear yard cells size x y → free yard cells size (pos x) (pos y) ≡ true
  unfolding covers
  clear_free c =
      within c.right c.bottom
      ∙ no_wall_is
      (λ column row e.
      let across = share x size.w (256 * column) 256 in
      let down = share y size.h (256 * row) 256 in
      let p = share_unit x size.w column (and_left across down e) in
      let q = share_unit y size.h row (and_right across down e) in
      (no_byte column row).1
      (rw (p.2, q.2) at
      (c.squares (shared x column) (shared y row) p.0 p.1 q.0 q.1)))

-- Left of the yard and above it nothing is free.
module _ (yard : Yard) (cells : List ℕ) (size : Size) where
  pub left : (x : ℕ) (y : ℤ) → free yard cells size (negsuc x) y ≡ false
  unfolding free
  left x y = refl

  pub above : (x : ℤ) (y : ℕ) → free yard cells size x (negsuc y) ≡ false
  unfolding free
  above (pos x) y = refl
  above (negsuc x) y = refl

  pub free_at : (x y : ℤ) → (free yard cells size x y ≡ true) ↔ FreeAt yard cells size x y
  free_at (pos x) (pos y) = (free_clear yard cells size x y, clear_free yard cells size x y)
  free_at (pos x) (negsuc y) = (λ e. never e (above (pos x) y), λ f. absurd f)
  free_at (negsuc x) y = (λ e. never e (left x y), λ f. absurd f)

  pub below_left : (x y : ℤ) → lt_z x (pos 0) ≡ true → free yard cells size x y ≡ false
  below_left (pos x) y e = absurd (omega (arith, ltb-true x 0 e))
  below_left (negsuc x) y e = left x y

  pub below_above : (x y : ℤ) → lt_z y (pos 0) ≡ true → free yard cells size x y ≡ false
  below_above x (pos y) e = absurd (omega (arith, ltb-true y 0 e))
  below_above x (negsuc y) e = above x y

  -- A place that is free is no further than the yard is large.
  pub near : (x y : ℤ) → CellsFit yard cells → free yard cells size x y ≡ true
      → (nat_abs x ≤ 16384) × (nat_abs y ≤ 16384)
  near (pos x) (pos y) fit e = let h = inside yard cells size x y e in (omega arith, omega arith)
  near (pos x) (negsuc y) fit e = never e (above (pos x) y)
  near (negsuc x) y fit e = never e (left x y)

-- What decides at a place that is not negative, and at any place.
pub ruleset edges = (past_right, past_bottom, searched)

pub ruleset signs = (below_left, below_above)
