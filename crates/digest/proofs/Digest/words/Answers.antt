-- `words` meets its contract: after each call of its closure the digest is that of the words so far.
use mathlib.Core.Path.{◌≡◌, refl, subst}
use borrow.Author.Rules.{rules}
use Rattle.std.proofs.lemmas.Fn.{fold_over, slice_gives, fronts}
use Rattle.digest.specs.Fnv.{fnv}
use Rattle.digest.specs.Words.{bytes_of_words}
use Rattle.digest.proofs.Words.{one_more, machine_bits}
use Rattle.digest.proofs.Digest.words.Goals as goal

pub returns : goal.returns
unfolding fnv bytes_of_words
returns c =
    let value = c.args.self.value in
    record {
      continued =
          subst (λ l. c.fold.result.value ≡ fnv value (bytes_of_words l)) c.iter.ensures.rest
          (fold_over fronts (λ y. y.now) _ (λ ys d. d.value ≡ fnv value (bytes_of_words ys)) _
          (λ ys a x b f j k.
          let more = one_more value ys x.now in
          let bits = machine_bits x.now in
          search rules) _ _ _ _
          (slice_gives c.iter.result) refl c.fold.ensures.ran);
    }
