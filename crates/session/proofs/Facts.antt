-- The tests of rule 10 and of '*Sound* means' say the facts of specs/Facts.antt, both ways.
use Prim.Native.Nat.{ℕ}
use mathlib.Core.Path.{◌≡◌}
use mathlib.Core.Logic.Iff
use mathlib.Core.Logic.{◌↔◌}
use mathlib.Core.Bool.{true}
use mathlib.Core.List.{List}
use lib.IntN.{ℤ}
use lib.ListN.{length}
use Rattle.basis.specs.Numbers.{step_length}
use Rattle.basis.proofs.Tests.{says_eq, says_two, says_three}
use Rattle.record.specs.Buffer.{buffer_size}
use Rattle.record.proofs.Rules.{buffer_valid}
use Rattle.clock.proofs.Sound.{exactly_sound}
use Rattle.yard.specs.declared.world.Yard.{Yard}
use Rattle.yard.proofs.Fits.{ranges, cells, sizes}
use Rattle.fleet.proofs.Carriers.{state_sound}
use Rattle.session.specs.declared.Session.{Session}
use Rattle.session.specs.Lent.{Lent, world_in}
use Rattle.session.specs.Sound.{world_room, room, sound}
use Rattle.session.specs.Facts.{Lengths, Room, Sound}

pub lengths_fit : (yard : Yard) (cells : List ℕ) (boxes state : List ℤ)
    → (world_room yard (length cells) (length boxes) (length state) ≡ true)
    ↔ Lengths yard cells boxes state
unfolding world_room
lengths_fit yard cells boxes state =
    Iff.trans (says_three (says_eq _ _) (says_eq _ _) (says_eq _ _)) (
      λ (c, b, s). record { cell_bytes = c; world_words = b; state_words = s },
      λ f. (f.cell_bytes, f.world_words, f.state_words),
    )

pub room_fits : (yard : Yard) (l : Lent) → (room yard l ≡ true) ↔ Room yard l
unfolding room
room_fits yard l =
    Iff.trans
    (says_three (lengths_fit yard l.cells l.boxes l.state)
    (says_eq _ _) (says_eq (length l.log) buffer_size)) (
      λ (w, r, b). record { lengths = w; row_words = r; log_bytes = b },
      λ f. (f.lengths, f.row_words, f.log_bytes),
    )

pub sound_means : (session : Session) (l : Lent) → (sound session l ≡ true) ↔ Sound session l
unfolding sound
sound_means session l =
    let yard = session.yard in
    Iff.trans
    (says_two (says_two (says_two (says_two (says_two (says_two (ranges yard)
    (room_fits yard l)) (cells l.cells)) (sizes yard l.boxes))
    (exactly_sound step_length session.clock))
    (buffer_valid yard.b session.held l.log))
    (state_sound (world_in session l) l.state)) (
      λ ((((((r, m), c), z), (rest, n, f, e)), (long, few, b)), s).
          record {
            ranges = r;
            room = m;
            cells = c;
            sizes = z;
            steps = n;
            remainder = rest;
            held = few;
            forward = f;
            time = e;
            log = b;
            state = s;
          },
      λ g. (
        (
          (
            (((g.ranges, g.room), g.cells), g.sizes),
            (g.remainder, g.steps, g.forward, g.time),
          ),
          (g.room.log_bytes, g.held, g.log),
        ),
        g.state,
      ),
    )
