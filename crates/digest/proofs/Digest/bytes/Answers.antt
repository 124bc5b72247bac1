-- `bytes` meets its contract: after each call of its closure the digest is that of the bytes so far.
use mathlib.Core.Path.{◌≡◌, refl, subst}
use borrow.Author.Rules.{rules}
use Rattle.std.proofs.lemmas.Fn.{fold_over, slice_gives, fronts}
use Rattle.digest.specs.Fnv.{fnv}
use Rattle.digest.proofs.Fnv.{one_more}
use Rattle.digest.proofs.Digest.bytes.Goals as goal

pub returns : goal.returns
unfolding fnv
returns c =
    let value = c.args.self.value in
    record {
      continued =
          subst (λ l. c.fold.result.value ≡ fnv value l) c.iter.ensures.rest
          (fold_over fronts (λ y. y.now) _ (λ ys d. d.value ≡ fnv value ys) _
          (λ ys a x b f j k. let more = one_more value ys x.now in search rules) _ _ _ _
          (slice_gives c.iter.result) refl c.fold.ensures.ran);
    }
