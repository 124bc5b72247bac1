-- `Site::state_sound` meets its contract: the call of `all` is `every` over the carriers.
use borrow.Author.Tests.{tests}
use native.Mathlib.Omega.{arith}
use Rattle.std.proofs.Common.{rules, refl, ◌∙◌}
use Rattle.std.proofs.lemmas.Iterator.{YieldsList-from_range}
use Rattle.std.proofs.lemmas.Iterator.Search.{all_from_yields_List}
use Rattle.yard.specs.Step.{sound_carrier}
use Rattle.yard.proofs.Every.{over_range}
use Rattle.fleet.specs.Site.{world_at}
use Rattle.fleet.specs.State.{carrier, free_for, sound_state}
use Rattle.fleet.proofs.site.Site.state_sound.Goals as goal

pub returns : goal.returns
unfolding sound_state free_for
returns c =
    record {
      rule =
          let world = world_at c.args.self.now in
          let state = c.args.state.now in
          let b = world.yard.b in
          all_from_yields_List (λ i. sound_carrier (free_for world i state) (carrier i state)) _ _ _
          c.all.ensures.ran
          (YieldsList-from_range 0 b b refl (omega arith)) (λ x b q k. search (rules, tests))
          ∙ over_range _ b;
    }
