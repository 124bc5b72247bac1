-- `starts_hold` meets its contract: the call of `all` is `every` over the carriers.
use borrow.Author.Tests.{tests}
use native.Mathlib.Omega.{arith}
use Rattle.std.proofs.Common.{rules, refl, ◌∙◌}
use Rattle.std.proofs.lemmas.Iterator.{YieldsList-from_range, serves_from_Range}
use Rattle.std.proofs.lemmas.Iterator.Search.{all_from_yields_List}
use Rattle.yard.specs.Rule9.{start_holds, starts_hold}
use Rattle.yard.proofs.Every.{over_range}
use Rattle.yard.proofs.Fits.{sizes_fit}
use Rattle.yard.proofs.rule9.starts_hold.Goals as goal

pub all-requires-clause-callable : goal.all-requires-clause-callable
all-requires-clause-callable c =
    serves_from_Range (λ x q k. search rules)
    (λ x l h. let fit = sizes_fit _ _ c.requires.sized x h in search rules)

pub returns : goal.returns
unfolding starts_hold
returns c =
    record {
      starts =
          let a = c.args in
          let b = a.yard.b in
          all_from_yields_List (start_holds a.yard a.cells.now a.boxes.now) _ _ _
          c.all.ensures.ran
          (YieldsList-from_range 0 b b refl (omega arith)) (λ x b q k. search (rules, tests))
          ∙ over_range _ b;
    }
