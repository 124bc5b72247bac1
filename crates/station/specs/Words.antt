-- The session of the C face: nine words, w, h, b, first, last, remainder, cut, steps, held.
use Rattle.std.specs.Prelude.{ℕ, ◌^◌, ◌<◌, ◌≤◌, ◌≡◌, Bool, ◌&&◌, List, [], ◌∷◌, ltb, eqb}
use Rattle.std.specs.Prelude.{get_or, length, Result, MatchResult}
use Rattle.basis.specs.Numbers.{FAULT}
use Rattle.basis.specs.Order.{Order, check, give}
use Rattle.basis.specs.declared.Refusal.{Refusal}
use Rattle.basis.specs.declared.Refusal.TheVariants as why
use Rattle.session.specs.declared.Session.{Session}

-- The words of a session.
unfoldable pub session_words : Session → List ℕ
session_words session =
    session.yard.w
    ∷ session.yard.h
    ∷ session.yard.b
    ∷ session.clock.first
    ∷ session.clock.last
    ∷ session.clock.remainder
    ∷ session.clock.cut
    ∷ session.clock.steps
    ∷ session.held
    ∷ []

-- The session in nine words, each taken whole.
unfoldable pub session_of : List ℕ → Session
session_of words =
    record {
      yard = record { w = get_or words 0 0; h = get_or words 1 0; b = get_or words 2 0 };
      clock = record {
        first = get_or words 3 0;
        last = get_or words 4 0;
        remainder = get_or words 5 0;
        cut = get_or words 6 0;
        steps = get_or words 7 0;
      };
      held = get_or words 8 0;
    }

-- There are nine.
abbrev pub nine : List ℕ → Bool
nine words = eqb (length words) 9

-- A word that is a u32.
abbrev pub fits_u32 : ℕ → Bool
fits_u32 word = ltb word (2 ^ 32)

-- Nine, and W, H and B are u32, as the library has them.
unfoldable pub words_fit : List ℕ → Bool
words_fit words =
    nine words
    && fits_u32 (get_or words 0 0)
    && fits_u32 (get_or words 1 0)
    && fits_u32 (get_or words 2 0)

-- A word is read as a u32; 14 for one that isn't.
abbrev pub SmallOf : ℕ → Result ℕ Refusal → Type 0
SmallOf word out =
    MatchResult out (λ small. (small ≡ word) × (word < 2 ^ 32))
    (λ refusal. (2 ^ 32 ≤ word) × (refusal ≡ why.Fault))

-- Words are read as a session; 14 where they don't fit.
unfoldable pub words_order : List ℕ → Order Session
words_order words = check (words_fit words) FAULT (give (session_of words))
