-- `state::store` meets its contract.
use borrow.Author.Rules.{rules}
use Rattle.fleet.proofs.Words.{put_words}
use Rattle.basis.proofs.Signed.{got}
use Rattle.fleet.proofs.state.store.Goals as goal

pub returns : goal.returns
returns c =
    record {
      stored =
          simp (
            got c.args.c.x (search rules),
            got c.args.c.y (search rules),
            got c.args.c.u (search rules),
            got c.args.c.v (search rules),
            got c.args.c.lever (search rules),
          )
          (put_words c.args.i c.args.c c.args.state.now (search rules));
    }
