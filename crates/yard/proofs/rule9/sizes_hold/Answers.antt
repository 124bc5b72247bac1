-- `sizes_hold` meets its contract: the call of `all` is `every` over the carriers.
use borrow.Author.Tests.{tests}
use native.Mathlib.Omega.{arith}
use Rattle.std.proofs.Common.{rules, refl, ◌∙◌}
use Rattle.std.proofs.lemmas.Iterator.{YieldsList-from_range}
use Rattle.std.proofs.lemmas.Iterator.Search.{all_from_yields_List}
use Rattle.yard.specs.Rule9.{size_holds, sizes_hold}
use Rattle.yard.proofs.Every.{over_range}
use Rattle.yard.proofs.rule9.sizes_hold.Goals as goal

pub returns : goal.returns
unfolding sizes_hold
returns c =
    record {
      sizes =
          let b = c.args.yard.b in
          all_from_yields_List (size_holds c.args.boxes.now) _ _ _ c.all.ensures.ran
          (YieldsList-from_range 0 b b refl (omega arith)) (λ x b q k. search (rules, tests))
          ∙ over_range _ b;
    }
