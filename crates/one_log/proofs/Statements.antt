-- The statements of specs/Statements.antt, proved.
use Prim.Native.Nat.{ℕ, ◌+◌, ◌<◌}
use mathlib.Core.Path.{◌≡◌, refl, sym, ◌∙◌}
use mathlib.Core.Logic.{◌⊎◌, inl, inr}
use mathlib.Core.List.{List}
use mathlib.Core.Bool.{Bool, true, false}
use native.Mathlib.Omega.{arith}
use lib.Dec.{leb}
use lib.ListN.{length, take}
use lib.Seq.{take_all, length-take-le}
use borrow.Author.Tests.{leb-true, leb-false}
use Rattle.basis.specs.Numbers.{LOG, most_carriers}
use Rattle.basis.specs.Order.{Answer, refused, answer}
use Rattle.basis.proofs.Order.{apart}
use Rattle.record.specs.Buffer.{buffer_size}
use Rattle.record.specs.Log.{sound_log}
use Rattle.record.specs.declared.bytes.Record.{Record}
use Rattle.record.proofs.Logs.{sound, length_log_of}
use Rattle.merge.specs.Calls.{carriers_hold}
use Rattle.merge.proofs.Orders.{one_unsound, two_unsound}
use Rattle.merge.proofs.Ways.{Way, world, no_room, unsound, differing, filling, merging, way}
use Rattle.merge.proofs.Ways.{says_few}
use Rattle.one_log.specs.Written.{program_order}
use Rattle.one_log.specs.Statements.{Program}

only : (one two : List ℕ) (n : ℕ) → answer (program_order one two) ≡ refused n
    → (n ≡ 13) ⊎ (n ≡ 6) ⊎ (n ≡ 8)
only one two n e = go (way most_carriers buffer_size one two) e
  where
    same : {m : ℕ} → ◌≡◌ {A = Answer (List Record)} (refused m) (refused n) → n ≡ m
    same q = cc

    go : {a : Answer (List Record)} → Way most_carriers buffer_size one two a → a ≡ refused n
        → (n ≡ 13) ⊎ (n ≡ 6) ⊎ (n ≡ 8)
    go (world h) q = absurd (h (omega arith, omega arith))
    go (no_room few h) q = absurd (h refl)
    go (unsound few long u) q = inl (same q)
    go (differing m f) q = inr (inl (same q))
    go (filling m f h) q = inr (inr (same q))
    go (merging m f h) q = apart (sym q)

-- A log that is longer than any is unsound, and so is as much of it as is read.
long_unsound : (log : List ℕ) → buffer_size < length log → sound_log most_carriers log ≡ false
long_unsound log h = go (sound_log most_carriers log) refl
  where
    go : (t : Bool) → sound_log most_carriers log ≡ t → t ≡ false
    go true e = let s = sound most_carriers log e in absurd (omega (arith, s.whole, s.few))
    go false e = refl

-- What is read of a file: all of it, or it is unsound as the file is.
abbrev cut : List ℕ → List ℕ
cut log = take (buffer_size + 1) log

read : (log : List ℕ) → (cut log ≡ log)
    ⊎ ((sound_log most_carriers (cut log) ≡ false) × (sound_log most_carriers log ≡ false))
read log = go (leb (length log) (buffer_size + 1)) refl
  where
    go : (t : Bool) → leb (length log) (buffer_size + 1) ≡ t → (cut log ≡ log)
        ⊎ ((sound_log most_carriers (cut log) ≡ false) × (sound_log most_carriers log ≡ false))
    go true e = inl (take_all (buffer_size + 1) log (leb-true _ _ e))
    go false e =
        let more : buffer_size + 1 < length log = leb-false _ _ e in
        let long : length (cut log) ≡ buffer_size + 1 = length-take-le _ log (omega arith) in
        inr (long_unsound (cut log) (omega arith), long_unsound log (omega arith))

enough : (one two : List ℕ)
    → answer (program_order (cut one) (cut two)) ≡ answer (program_order one two)
enough one two = first (read one) (read two)
  where
    few : carriers_hold most_carriers ≡ true
    few = (says_few most_carriers).1 (omega arith, omega arith)

    unsound_one : (log other : List ℕ) → sound_log most_carriers log ≡ false
        → answer (program_order log other) ≡ refused LOG
    unsound_one log other e = one_unsound most_carriers buffer_size log other few refl e

    unsound_two : (log other : List ℕ) → sound_log most_carriers other ≡ false
        → answer (program_order log other) ≡ refused LOG
    unsound_two log other e = go (sound_log most_carriers log) refl
      where
        go : (t : Bool) → sound_log most_carriers log ≡ t
            → answer (program_order log other) ≡ refused LOG
        go true q = two_unsound most_carriers buffer_size log other few refl q e
        go false q = unsound_one log other q

    Read : List ℕ → Type 0
    Read log =
        (cut log ≡ log)
        ⊎ ((sound_log most_carriers (cut log) ≡ false) × (sound_log most_carriers log ≡ false))

    first : Read one → Read two
        → answer (program_order (cut one) (cut two)) ≡ answer (program_order one two)
    first (inl e) (inl q) = rw (e, q)
    first (inr e) q = unsound_one (cut one) (cut two) e.0 ∙ sym (unsound_one one two e.1)
    first (inl e) (inr q) =
        unsound_two (cut one) (cut two) q.0 ∙ sym (unsound_two one two q.1)

pub program : Program
program = record { only = only; whole = length_log_of; enough = enough }
