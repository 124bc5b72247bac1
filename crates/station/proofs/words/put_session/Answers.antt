-- `put_session` meets its contract.
use Rattle.station.specs.Words.{session_words}
use Rattle.station.proofs.Outcomes.{stores}
use Rattle.station.proofs.words.put_session.Goals as goal

pub returns : goal.returns
unfolding session_words
returns c =
    record {
      put =
          rw (c.from.ensures, c.from-2.ensures, c.from-3.ensures)
          (stores c.args.words.now (session_words c.args.session) c.requires.room);
    }
