-- `cells_hold` meets its contract: the call of `all` is `every` over the cells.
use borrow.Author.Tests.{tests}
use Rattle.std.proofs.Common.{rules, ◌∙◌, leb}
use Rattle.std.proofs.lemmas.Iterator.{YieldsList-from_slice}
use Rattle.std.proofs.lemmas.Iterator.Search.{all_from_yields_List}
use Rattle.yard.specs.Rule9.{cells_hold}
use Rattle.yard.proofs.Every.{over_list}
use Rattle.yard.proofs.rule9.cells_hold.Goals as goal

pub returns : goal.returns
unfolding cells_hold
returns c =
    record {
      cells =
          let cells = c.args.cells.now in
          all_from_yields_List (λ cell. leb cell 1) _ _ _ c.all.ensures.ran
          (YieldsList-from_slice cells cc) (λ x b q k. search (rules, tests))
          ∙ over_list _ cells;
    }
