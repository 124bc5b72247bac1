-- Laws of rows laid end to end: a row where it lies, a row stored, rows of zeros, and back.
use Prim.Native.Nat.{ℕ, zero, suc, ◌+◌, ◌*◌, ◌%◌, ◌<◌}
use mathlib.Core.Path.{◌≡◌, sym, subst, ◌∙◌}
use mathlib.Core.List.{List, ◌++◌, append_assoc, flatten}
use native.Mathlib.Nat.{zero-mul, zero-add, not-suc-le-zero, le_of_eq}
use native.Mathlib.Omega.{arith}
use lib.ListN.{length, take, drop, get_or, set, replicate, length-append, length-set}
use lib.ListN.{length-replicate, replicate-append-replicate}
use lib.Seq.{paste, take_at, drop_at, take_all, take-append-add, drop-append-add}
use Rattle.basis.specs.Numbers.{row_count}
use Rattle.record.specs.declared.bytes.Record.{Record}
use Rattle.course.specs.World.{levers_of, after, rows_after}
use Rattle.course.specs.Session.{Made, one_step, steps, row_of}
use Rattle.course.specs.Words.{WordWorld, world_of_words, Sized, Wide, done, more, Fits}
use Rattle.course.proofs.Rows.{made_after}

next_row : (i width : ℕ) → suc i * width ≡ width + i * width
next_row i width = omega arith

module _ {A : Type 0} {width : ℕ} where
  wide_set : {rows : List (List A)} (i : ℕ) (row : List A) → Wide width rows → length row ≡ width
      → Wide width (set rows i row)
  wide_set i row done e = done
  wide_set zero row (more w wide) e = more e wide
  wide_set (suc i) row (more w wide) e = more w (wide_set i row wide e)

  wide_replicate : (n : ℕ) (row : List A) → length row ≡ width → Wide width (replicate n row)
  wide_replicate zero row e = done
  wide_replicate (suc n) row e = more e (wide_replicate n row e)

  length_flatten : {rows : List (List A)} → Wide width rows
      → length (flatten rows) ≡ length rows * width
  unfolding flatten
  length_flatten done = sym (zero-mul width)
  length_flatten (more {row = row} {rows = rows} w wide) =
      omega (arith, length-append row (flatten rows), length_flatten wide)

  -- Past a row of the width.
  module _ (row rest : List A) (e : length row ≡ width) (n : ℕ) where
    take_past : take (width + n) (row ++ rest) ≡ row ++ take n rest
    take_past =
        subst (λ w. take (w + n) (row ++ rest) ≡ row ++ take n rest) e (take-append-add row rest n)

    drop_past : drop (width + n) (row ++ rest) ≡ drop n rest
    drop_past = subst (λ w. drop (w + n) (row ++ rest) ≡ drop n rest) e (drop-append-add row rest n)

  -- A row where it lies.
  pub row_at : {rows : List (List A)} (i : ℕ) (d : List A) → Wide width rows → i < length rows
      → get_or rows i d ≡ take width (drop (i * width) (flatten rows))
  unfolding flatten
  row_at i d done h = absurd (not-suc-le-zero h)
  row_at zero d (more {row = row} {rows = rows} w wide) h =
      rw (zero-mul width) (sym (take_at row (flatten rows) width w))
  row_at (suc i) d (more {row = row} {rows = rows} w wide) h =
      rw (next_row i width, drop_past row (flatten rows) w (i * width))
      (row_at i d wide (omega arith))

  -- A row stored: its words take the place of those that lay there.
  pub store_at : {rows : List (List A)} (i : ℕ) (row : List A) → Wide width rows → i < length rows
      → length row ≡ width → flatten (set rows i row) ≡ paste (flatten rows) (i * width) row width
  unfolding flatten
  store_at i row done h e = absurd (not-suc-le-zero h)
  store_at zero row (more {row = first} {rows = rows} w wide) h e =
      rw (
        zero-mul width,
        zero-add width,
        take_all width row (le_of_eq e),
        drop_at first (flatten rows) width w,
      )
  store_at (suc i) row (more {row = first} {rows = rows} w wide) h e =
      let on : suc i * width + width ≡ width + (i * width + width) = omega arith in
      rw (
        store_at i row wide (omega arith) e,
        on,
        next_row i width,
        take_past first (flatten rows) w (i * width),
        drop_past first (flatten rows) w (i * width + width),
      )
      (simp append_assoc)

module _ {A : Type 0} (width : ℕ) where
  -- Rows of one word over and over are that word over and over.
  pub flatten_replicate : (n : ℕ) (word : A)
      → flatten (replicate n (replicate width word)) ≡ replicate (n * width) word
  unfolding flatten
  flatten_replicate zero word = rw (zero-mul width)
  flatten_replicate (suc n) word =
      rw (flatten_replicate n word, next_row n width)
      (replicate-append-replicate width (n * width) word)

-- The same of what steps have made, where it fits.
module _ {A : Type 0} {words : WordWorld A} {made : Made (world_of_words words)}
    (fits : Fits words made) where
  pub flat_length : length (flatten made.rows) ≡ row_count * words.width
  flat_length = length_flatten fits.rows ∙ rw fits.many

  pub flat_row : (t : ℕ)
      → row_of t made
      ≡ take words.width (drop (t % row_count * words.width) (flatten made.rows))
  flat_row t = row_at (t % row_count) _ fits.rows (omega (arith, fits.many))

  pub flat_saved : (log : List Record) (t : ℕ)
      → flatten (one_step log t made).rows
      ≡ paste (flatten made.rows) (t % row_count * words.width) made.state words.width
  flat_saved log t =
      store_at (t % row_count) made.state fits.rows (omega (arith, fits.many)) fits.state

-- Steps keep the width.
module _ {A : Type 0} {words : WordWorld A} (sized : Sized words) where
  pub fits_step : {made : Made (world_of_words words)} (log : List Record) (t : ℕ) → Fits words made
      → Fits words (one_step log t made)
  fits_step {made} log t fits =
      record {
        state = sized.step (levers_of t log) made.state fits.state;
        rows = wide_set (t % row_count) made.state fits.rows fits.state;
        many = length-set made.rows (t % row_count) made.state ∙ fits.many;
      }

  pub fits_steps : {made : Made (world_of_words words)} (log : List Record) (t k : ℕ)
      → Fits words made → Fits words (steps log t k made)
  unfolding steps
  fits_steps log t zero fits = fits
  fits_steps log t (suc k) fits = fits_step log (t + k) (fits_steps log t k fits)

  pub fits_after : (n : ℕ) (log : List Record) → Fits words (made_after (world_of_words words) n log)
  unfolding after rows_after
  fits_after zero log =
      record {
        state = sized.start;
        rows = wide_replicate row_count _ (length-replicate words.width words.zero);
        many = length-replicate row_count (replicate words.width words.zero);
      }
  fits_after (suc n) log = fits_step log n (fits_after n log)
