-- `distance` meets its contract: the search over the units ends where the walk does.
use Prim.Native.Nat.{◌+◌}
use mathlib.Core.Path.{◌≡◌}
use mathlib.Core.Bool.{true, false}
use borrow.Author.Rules.{rules}
use borrow.Author.Tests.{tests}
use native.Mathlib.Omega.{arith}
use Rattle.std.proofs.lemmas.Iterator.{serves_from_Range, first_from_Range}
use Rattle.yard.specs.Slide.{clear_on}
use Rattle.yard.specs.Free.{free_on}
use Rattle.yard.proofs.Signed.{words}
use Rattle.yard.proofs.Squares.{near}
use Rattle.yard.proofs.Walk.{searched}
use Rattle.yard.proofs.world.Ground.distance.Goals as goal

pub find-requires-clause-callable : goal.find-requires-clause-callable
find-requires-clause-callable c =
    let n = near _ _ _ _ _ c.args.self.now.laid c.requires.stands in
    serves_from_Range (λ x q k. search rules)
    (λ x l h. search (rules, words))

pub returns : goal.returns
returns c =
    let a = c.args in
    let clear = clear_on (free_on a.self.now) a.axis a.speed a.x a.y in
    let met = first_from_Range _ _ _ c.find.result
    (λ k. clear (k + 1) ≡ false) (λ k. clear (k + 1) ≡ true) c.find.ensures.ran
    (λ x q k. search (rules, words, tests)) (λ x q k. search (rules, words, tests)) in
    record { units = grind (arith, words, searched) }
