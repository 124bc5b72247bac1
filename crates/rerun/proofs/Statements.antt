-- The statements of specs/Statements.antt, proved.
use Prim.Native.Nat.{ℕ, ◌+◌, ◌<◌, ◌≤◌}
use mathlib.Core.Path.{◌≡◌, refl, sym, ap, ◌∙◌}
use mathlib.Core.Bool.{Bool, true, false}
use mathlib.Core.List.{List}
use native.Mathlib.Omega.{arith}
use lib.Dec.{leb}
use lib.ListN.{length, take}
use lib.Seq.{take_all, length-take-le}
use borrow.Author.Tests.{leb-true, leb-false}
use Rattle.basis.specs.Numbers.{LOG, most_steps}
use Rattle.basis.specs.Order.{Answer, answer, refused, accepted}
use Rattle.basis.proofs.Order.{held, given, apart}
use Rattle.record.specs.Bytes.{record_of, well_formed, limits_order, read_order}
use Rattle.record.specs.Buffer.{buffer_size}
use Rattle.record.specs.Log.{precedes, sound_log}
use Rattle.yard.specs.Free.{wall, share, covers, no_wall, free}
use Rattle.yard.specs.Levers.{push_of, cut_speed, brake, new_speed}
use Rattle.yard.specs.Ranges.{every}
use Rattle.yard.specs.Slide.{toward, clear_on, walk, distance, slide}
use Rattle.yard.specs.Step.{step}
use Rattle.yard.specs.Boxes.{size_of}
use Rattle.fleet.specs.Run.{run}
use Rattle.fleet.specs.State.{carrier, words_of, put, free_for, start_to}
use Rattle.fleet.specs.Step.{step_one, step_to, step_all}
use Rattle.record.specs.Buffer.{lever_at}
use Rattle.fleet.specs.Examples.{practice}
use Rattle.rerun.specs.Ascii.{ascii}
use Rattle.rerun.specs.Rerun.{steps_past, program_order}
use Rattle.rerun.specs.declared.ended.Ended.{Ended}
use Rattle.rerun.specs.Statements.{Program, Examples}
use Rattle.rerun.specs.Text.{decimal_to, word_text, lines_of, line_of}
use Rattle.rerun.proofs.Past.{too_long, unsound, reruns, replays, sound_within}

long : (input : List ℕ) → buffer_size < length input → answer (program_order input) ≡ refused LOG
long input h = too_long input h

enough : (input : List ℕ)
    → answer (program_order (take (buffer_size + 1) input)) ≡ answer (program_order input)
enough input = go (leb (length input) buffer_size) refl
  where
    go : (t : Bool) → leb (length input) buffer_size ≡ t
        → answer (program_order (take (buffer_size + 1) input)) ≡ answer (program_order input)
    go true e =
        let fits : length input ≤ buffer_size + 1 =
        omega (arith, leb-true (length input) buffer_size e) in
        ap (λ (l : List ℕ). answer (program_order l)) (take_all (buffer_size + 1) input fits)
    go false e =
        let more : buffer_size + 1 ≤ length input =
        omega (arith, leb-false (length input) buffer_size e) in
        let same : length (take (buffer_size + 1) input) ≡ buffer_size + 1 =
        length-take-le (buffer_size + 1) input more in
        long (take (buffer_size + 1) input) (omega (arith, same)) ∙ sym (too_long input more)

number : {n : ℕ} → ◌≡◌ {A = Answer Ended} (refused n) (refused LOG) → n ≡ LOG
number e = cc

only : (input : List ℕ) (n : ℕ) → answer (program_order input) ≡ refused n → n ≡ LOG
only input n q = go (sound_log practice.yard.b input) refl
  where
    go : (t : Bool) → sound_log practice.yard.b input ≡ t → n ≡ LOG
    go false e = number (sym q ∙ unsound input e)
    go true e = apart (sym q ∙ reruns input e)

steps : (input : List ℕ) (end : Ended) → answer (program_order input) ≡ accepted end
    → end.steps ≤ most_steps
unfolding program_order
steps input end q =
    let one = held _ _ _ q in
    let two = held _ _ _ one.1 in
    rw (← given _ two.1) (sound_within practice.yard.b input two.0)

pub program : Program
program =
    record {
      long = long;
      enough = enough;
      unsound = unsound;
      only = only;
      rerun = reruns;
      replayed = replays;
      steps = steps;
    }

pub examples : Examples
unfolding program_order answer sound_log read_order limits_order well_formed record_of precedes
    steps_past run step_all step_to step_one carrier words_of put free_for start_to lever_at
    size_of step new_speed push_of cut_speed brake slide distance walk clear_on toward free
    no_wall covers share wall every decimal_to word_text lines_of line_of ascii
examples = record { brake = refl; empty = refl; refused = refl }
