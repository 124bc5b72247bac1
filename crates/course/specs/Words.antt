-- Document 01, 'Going back', as words: worlds whose states are words of one width, and their rows.
use Rattle.std.specs.Prelude.{ℕ, ◌≡◌, Bool, Option, List, [], ◌∷◌, length, replicate}
use Rattle.basis.specs.Numbers.{row_count}
use Rattle.course.specs.World.{World}
use Rattle.course.specs.Session.{Made}

-- A world whose states are words.
pub record WordWorld (A : Type 0) : Type 0 where
  -- The number of words of a state.
  pub width : ℕ
  pub carriers : ℕ
  pub length : ℕ
  pub start : List A
  -- 'Opening fills rows and log with zeros.'
  pub zero : A
  pub step : (ℕ → Option ℕ) → List A → List A
  pub good : List A → Bool

-- The same as a world.
abbrev pub world_of_words : {A : Type 0} → WordWorld A → World
world_of_words {A} words =
    record {
      State = List A;
      carriers = words.carriers;
      length = words.length;
      start = words.start;
      blank = replicate words.width words.zero;
      step = words.step;
      good = words.good;
    }

-- The start has the width, and a step keeps it.
pub record Sized {A : Type 0} (words : WordWorld A) : Type 0 where
  pub start : length words.start ≡ words.width
  pub step : (levers : ℕ → Option ℕ) (state : List A) → length state ≡ words.width
      → length (words.step levers state) ≡ words.width

-- Every row has the width.
pub data Wide {A : Type 0} (width : ℕ) : List (List A) → Type 0 where
  done : Wide width []
  more : {row : List A} {rows : List (List A)} → length row ≡ width → Wide width rows
      → Wide width (row ∷ rows)

-- The state and the 64 rows have the width.
pub record Fits {A : Type 0} (words : WordWorld A) (made : Made (world_of_words words)) : Type 0 where
  pub state : length made.state ≡ words.width
  pub rows : Wide words.width made.rows
  pub many : length made.rows ≡ row_count
