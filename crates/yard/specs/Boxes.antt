-- Document 01, 'The yard and its carriers': the carriers' words, and what fits functions over them.
use Rattle.std.specs.Prelude.{ℕ, ◌+◌, ◌*◌, ◌≤◌, ◌≡◌, List, ℤ, pos, nat_abs, get_or, length}
use Rattle.basis.specs.Numbers.{most_carriers}
use Rattle.yard.specs.declared.world.Yard.{Yard}
use Rattle.yard.specs.declared.world.Size.{Size}
use Rattle.yard.specs.declared.world.Word.{Word}
use Rattle.yard.specs.declared.world.Word.TheVariants.{X, Y, W, H}

-- 'for each carrier x, y, w, h in that order as i32 words': word 0 to 3 of carrier i.
abbrev pub word : List ℤ → ℕ → ℕ → ℤ
word boxes i k = get_or boxes (4 * i + k) (pos 0)

-- The number of a word: 'x, y, w, h in that order'.
abbrev pub word_number : Word → ℕ
word_number X = 0
word_number Y = 1
word_number W = 2
word_number H = 3

-- The size of carrier i.
unfoldable pub size_of : List ℤ → ℕ → Size
size_of boxes i = record { w = nat_abs (word boxes i 2); h = nat_abs (word boxes i 3) }

-- W and H at most 64, and W·H cell bytes.
pub record CellsFit (yard : Yard) (cells : List ℕ) : Type 0 where
  pub w : yard.w ≤ 64
  pub h : yard.h ≤ 64
  pub room : length cells ≡ yard.w * yard.h

-- B at most 32, and 4·B world words.
pub record BoxesFit (yard : Yard) (boxes : List ℤ) : Type 0 where
  pub b : yard.b ≤ most_carriers
  pub room : length boxes ≡ 4 * yard.b

-- A width and a height 'each 1 to 1,024 units'.
pub record SizeFits (size : Size) : Type 0 where
  pub w_low : 1 ≤ size.w
  pub w_high : size.w ≤ 1024
  pub h_low : 1 ≤ size.h
  pub h_high : size.h ≤ 1024
