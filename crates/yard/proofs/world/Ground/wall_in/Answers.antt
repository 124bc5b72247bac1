-- `wall_in` meets its contract. Invariant: no wall in the block's rows that are passed.
use Prim.Native.Nat.{ℕ, ◌+◌, ◌-◌, ◌*◌, ◌<◌, ◌≤◌}
use mathlib.Core.Path.{◌≡◌, refl, sym, ap, ◌∙◌}
use mathlib.Core.Bool.{false}
use mathlib.Core.List.{List}
use mathlib.Core.Logic.{⊎_elim}
use native.Mathlib.Nat.{eq-or-lt_of_le}
use native.Mathlib.Omega.{arith}
use lib.Dec.{eqb}
use lib.ListN.{get_or, take, drop}
use Rattle.std.proofs.lemmas.List.{get_or-take, get_or-drop, length-take, length-drop}
use Rattle.yard.specs.declared.world.Yard.{Yard}
use Rattle.yard.specs.Free.{wall_at, wall}
use Rattle.yard.specs.Search.{row_of}
use Rattle.yard.proofs.world.Ground.wall_in.Goals as goal

-- A cell of a row, among those of the row that are searched.
in_row : (yard : Yard) (cells : List ℕ) (left right : ℕ) (part : List ℕ) (row column i : ℕ)
    → part ≡ row_of yard cells row → column ≡ left + i → column < right → right ≤ yard.w
    → wall yard cells column row ≡ wall_at (take (right - left) (drop left part)) i
unfolding wall
in_row yard cells left right part row column i p e l w =
    let first : ℕ = row * yard.w in
    let at : first + column ≡ first + (left + i) = omega arith in
    rw at
    (sym
    (ap (λ cell. eqb cell 1)
    (get_or-take (right - left) (drop left part) i 0 (omega arith)
    ∙ get_or-drop left part i 0
    ∙ ap (λ list. get_or list (left + i) 0) p
    ∙ get_or-take yard.w (drop first cells) (left + i) 0 (omega arith)
    ∙ get_or-drop first cells (left + i) 0)))

pub returns-in-Some : goal.returns-in-Some
returns-in-Some c =
    let a = c.args in
    let passed = c.loop-row in
    let on = c.in-Some.on in
    let first = c.in-Some.ensures.first in
    let within : on < a.block.right - a.block.left = omega (arith, length-take {A = ℕ}) in
    let column_is = in_row a.self.now.yard a.self.now.cells.now a.block.left a.block.right in
    record {
      met =
          record {
            inside = omega arith;
            there = column_is _ passed.row _ on c.row.ensures.cells refl (omega arith) (omega arith)
                ∙ first.1;
            rows = λ column row h l. passed.invariant.2 column row (omega arith);
            columns = λ column h l.
                let i = column - a.block.left in
                column_is _ passed.row column i c.row.ensures.cells (omega arith) h.right
                (omega arith)
                ∙ first.2 i (omega arith);
          };
    }

pub loop-row-preserved : goal.loop-row-preserved
loop-row-preserved c =
    let a = c.args in
    let passed = c.loop-row in
    let clear : (column : ℕ) → a.block.left ≤ column → column < a.block.right
    → wall a.self.now.yard a.self.now.cells.now column passed.row ≡ false = λ column l h.
    let i = column - a.block.left in
    in_row a.self.now.yard a.self.now.cells.now a.block.left a.block.right _ passed.row column i
    c.row.ensures.cells (omega arith) h (omega arith)
    ∙ c.in_default.ensures.first i
    (omega (arith, length-take {A = ℕ}, length-drop {A = ℕ})) in (
      omega arith,
      omega arith,
      λ column row h.
          let last : row ≤ passed.row = omega arith in
          ⊎_elim (λ e. rw e (clear column h.left h.right))
          (λ l. passed.invariant.2 column row (omega arith)) (eq-or-lt_of_le last),
    )
