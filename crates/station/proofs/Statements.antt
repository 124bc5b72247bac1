-- The statements of specs/Statements.antt, proved.
use Prim.Native.Nat.{ℕ, ◌*◌}
use mathlib.Core.Path.{◌≡◌, refl, sym, ◌∙◌}
use mathlib.Core.Logic.{◌⊎◌, ◌≢◌, inl, inr}
use mathlib.Core.Bool.{Bool, true, false, ◌&&◌}
use mathlib.Core.List.{List, [], ◌∷◌}
use native.Mathlib.Omega.{arith}
use lib.Dec.{eqb}
use lib.Ieee.{Float}
use lib.IntN.{ℤ}
use lib.ListN.{length}
use borrow.Author.Tests.{eq-eqb, ne_eqb, eqb-true, eqb-false}
use Rattle.basis.specs.Numbers.{ROOM, FAULT}
use Rattle.basis.specs.Order.{Order, answer, refused, and_then, give}
use Rattle.basis.proofs.Order.{passes, fails, one_result}
use Rattle.basis.proofs.Tests.{never, and_both}
use Rattle.merge.specs.Calls.{carriers_hold}
use Rattle.load.specs.Step.{step_order}
use Rattle.yard.specs.Rule9.{ranges_hold}
use Rattle.yard.specs.declared.world.Yard.{Yard}
use Rattle.session.specs.Calls.{world_order, open_order, reading_order, deliver_order}
use Rattle.session.specs.Calls.{digest_order, shown_order}
use Rattle.session.specs.Lent.{Lent}
use Rattle.session.specs.Sound.{room}
use Rattle.session.specs.declared.Session.{Session}
use Rattle.session.proofs.Good.{bad_ranges}
use Rattle.station.specs.Words.{session_words, session_of, nine}
use Rattle.station.specs.Face.{open_face, reading_face, deliver_face, shows, digest_face}
use Rattle.station.specs.Face.{shown_face, step_records_face, merge_face, load_of, load_step_face}
use Rattle.station.specs.Ropes.{force_of, rope_face}
use Rattle.station.specs.Statements.{NineWords, Determined, Refusals}
use Rattle.station.specs.Statements.{Lengths, Thin, LoadFace, TwoNumbers}
use Rattle.station.proofs.Loading.{load_numbers}
use Rattle.station.proofs.Merging.{wrong_count, wrong_buffer, merges}
use Rattle.station.proofs.OneRecord.{read_no_room, not_eight}
use Rattle.station.proofs.Showing.{digest_room, shown_room, shows_order}
use Rattle.station.proofs.Ropes.{wrong_numbers, wrong_point, steps}

session_back : (words : List ℕ) → length words ≡ 9 → session_words (session_of words) ≡ words
unfolding session_words session_of
session_back (a ∷ b ∷ c ∷ d ∷ e ∷ f ∷ g ∷ h ∷ i ∷ []) long = refl
session_back (a ∷ b ∷ c ∷ d ∷ e ∷ f ∷ g ∷ h ∷ i ∷ j ∷ rest) long = absurd (omega arith)
session_back (a ∷ b ∷ c ∷ d ∷ e ∷ f ∷ g ∷ h ∷ []) long = absurd (omega arith)
session_back (a ∷ b ∷ c ∷ d ∷ e ∷ f ∷ g ∷ []) long = absurd (omega arith)
session_back (a ∷ b ∷ c ∷ d ∷ e ∷ f ∷ []) long = absurd (omega arith)
session_back (a ∷ b ∷ c ∷ d ∷ e ∷ []) long = absurd (omega arith)
session_back (a ∷ b ∷ c ∷ d ∷ []) long = absurd (omega arith)
session_back (a ∷ b ∷ c ∷ []) long = absurd (omega arith)
session_back (a ∷ b ∷ []) long = absurd (omega arith)
session_back (a ∷ []) long = absurd (omega arith)
session_back [] long = absurd (omega arith)

pub determined : Determined
determined =
    record {
      log_sound = λ log. one_result;
      step_records = λ log step out. one_result;
      read_record = λ bytes out. one_result;
      write_record = λ step carrier lever out. one_result;
      merge = λ b one two out count. one_result;
      load_step = λ stiffness words. one_result;
      opens = λ yard reading l words. one_result;
      reading = λ reading l words. one_result;
      deliver = λ bytes l words. one_result;
      replay = λ yard steps cells boxes state log. one_result;
      digest = λ l words out. one_result;
      shown = λ carrier l words out. one_result;
      rope_step = λ kinds numbers point. one_result;
    }

pub refusals : Refusals
refusals =
    record {
      filled = λ before a n e. rw e;
      running = λ l words a n e. rw e;
      delivered = λ l words a n e. rw e;
      merged = λ out count a n e. rw e;
    }

-- Opening tests the ranges first, so the face's own test of them changes nothing.
opens : (yard : Yard) (reading : ℕ) (l : Lent) (words : List ℕ) → length words ≡ 9
    → answer (open_face yard reading l words) ≡ answer (open_order yard reading l)
unfolding open_face open_order world_order and_then
opens yard reading l words long = go (ranges_hold yard) refl
  where
    go : (t : Bool) → ranges_hold yard ≡ t
        → answer (open_face yard reading l words) ≡ answer (open_order yard reading l)
    go false e = fails _ _ e ∙ sym (fails _ _ e)
    go true e = passes _ _ e ∙ passes _ _ (eq-eqb _ _ long)

-- A wrong length at opening.
wrong_room : (yard : Yard) (reading : ℕ) (l : Lent) (words : List ℕ) → ranges_hold yard ≡ true
    → (room yard l && nine words) ≡ false → answer (open_face yard reading l words) ≡ refused ROOM
unfolding open_face open_order world_order and_then
wrong_room yard reading l words e wrong = go (nine words) refl (room yard l) refl
  where
    go : (n : Bool) → nine words ≡ n → (r : Bool) → room yard l ≡ r
        → answer (open_face yard reading l words) ≡ refused ROOM
    go false n r q = passes _ _ e ∙ fails _ _ n
    go true n false q = passes _ _ e ∙ passes _ _ n ∙ passes _ _ e ∙ fails _ _ q
    go true n true q = never (and_both q n) wrong

-- A session that isn't nine words.
module _ (words : List ℕ) (h : length words ≡ 9 → ⊥) (l : Lent) where
  reading_fault : (reading : ℕ) → answer (reading_face reading l words) ≡ refused FAULT
  unfolding reading_face
  reading_fault reading = fails _ _ (ne_eqb _ _ h)

  deliver_fault : (bytes : List ℕ) → answer (deliver_face bytes l words) ≡ refused FAULT
  unfolding deliver_face
  deliver_fault bytes = fails _ _ (ne_eqb _ _ h)

  shows_fault : {A B : Type 0} (count : ℕ) (out : List B) (order : Order A) (parts : A → List B)
      → answer (shows count out words order parts) ≡ refused FAULT
  unfolding shows
  shows_fault count out order parts = go (eqb (length out) count) refl
    where
      go : (t : Bool) → eqb (length out) count ≡ t
          → answer (shows count out words order parts) ≡ refused FAULT
      go false e = fails _ _ e
      go true e = passes _ _ e ∙ fails _ _ (ne_eqb _ _ h)

  digest_fault : (out : List ℕ) → answer (digest_face l words out) ≡ refused FAULT
  unfolding digest_face
  digest_fault out = shows_fault 1 out _ _

  shown_fault : (carrier : ℕ) (out : List Float)
      → answer (shown_face carrier l words out) ≡ refused FAULT
  unfolding shown_face
  shown_fault carrier out = shows_fault 2 out _ _

-- A slice that isn't as long as what is given.
part_room : (log : List ℕ) (step : ℕ) (out : List ℕ) → (length out ≡ 2 → ⊥)
    → answer (step_records_face log step out) ≡ refused ROOM
unfolding step_records_face
part_room log step out h = fails _ _ (ne_eqb _ _ h)

merge_room : (b : ℕ) (one two out count : List ℕ) → carriers_hold b ≡ true
    → (length count ≡ 1 → ⊥) ⊎ (length out ≡ 16384 → ⊥)
    → answer (merge_face b one two out count) ≡ refused ROOM
merge_room b one two out count few wrong = go (eqb (length count) 1) refl wrong
  where
    go : (t : Bool) → eqb (length count) 1 ≡ t
        → (length count ≡ 1 → ⊥) ⊎ (length out ≡ 16384 → ⊥)
        → answer (merge_face b one two out count) ≡ refused ROOM
    go false e h = wrong_count b one two out count few (eqb-false _ _ e)
    go true e (inl h) = absurd (h (eqb-true _ _ e))
    go true e (inr h) = wrong_buffer b one two out count few (eqb-true _ _ e) h

load_room : (stiffness : ℕ) (words : List ℤ) → (length words ≡ 2 → ⊥)
    → answer (load_step_face stiffness words) ≡ refused ROOM
unfolding load_step_face
load_room stiffness words h = fails _ _ (ne_eqb _ _ h)

rope_room : (kinds : List ℕ) (numbers point : List Float)
    → (length numbers ≡ 2 * length kinds → ⊥) ⊎ (length point ≡ 2 → ⊥)
    → answer (rope_face kinds numbers point) ≡ refused ROOM
rope_room kinds numbers point wrong = go (eqb (length numbers) (2 * length kinds)) refl wrong
  where
    go : (t : Bool) → eqb (length numbers) (2 * length kinds) ≡ t
        → (length numbers ≡ 2 * length kinds → ⊥) ⊎ (length point ≡ 2 → ⊥)
        → answer (rope_face kinds numbers point) ≡ refused ROOM
    go false e h = wrong_numbers kinds numbers point (eqb-false _ _ e)
    go true e (inl h) = absurd (h (eqb-true _ _ e))
    go true e (inr h) = wrong_point kinds numbers point (eqb-true _ _ e) h

pub lengths : Lengths
lengths =
    record {
      room = wrong_room;
      fault =
          λ words h l. (
            reading_fault words h l,
            deliver_fault words h l,
            digest_fault words h l,
            shown_fault words h l,
          );
      digest = digest_room;
      shown = shown_room;
      step_records = part_room;
      read_record = λ bytes out r. read_no_room bytes out;
      write_record = λ step carrier lever out r. not_eight step carrier lever out;
      merge = merge_room;
      load_step = load_room;
      rope_step = rope_room;
    }

readings : (reading : ℕ) (l : Lent) (words : List ℕ) → length words ≡ 9
    → answer (reading_face reading l words) ≡ answer (reading_order (session_of words) l reading)
unfolding reading_face
readings reading l words long = passes _ _ (eq-eqb _ _ long)

delivers : (bytes : List ℕ) (l : Lent) (words : List ℕ) → length words ≡ 9
    → answer (deliver_face bytes l words) ≡ answer (deliver_order (session_of words) l bytes)
unfolding deliver_face
delivers bytes l words long = passes _ _ (eq-eqb _ _ long)

digests : (l : Lent) (words out : List ℕ) → length words ≡ 9 → length out ≡ 1
    → answer (digest_face l words out)
    ≡ answer (and_then (digest_order (session_of words) l) (λ value. give (value ∷ [])))
unfolding digest_face
digests l words out long one = shows_order _ _ _ _ one _ (eq-eqb _ _ long)

shows_place : (carrier : ℕ) (l : Lent) (words : List ℕ) (out : List Float)
    → length words ≡ 9 → length out ≡ 2
    → answer (shown_face carrier l words out)
    ≡ answer (and_then (shown_order (session_of words) l carrier)
    (λ place. give (place.x ∷ place.y ∷ [])))
unfolding shown_face
shows_place carrier l words out long two = shows_order _ _ _ _ two _ (eq-eqb _ _ long)

load_steps : (stiffness : ℕ) (words : List ℤ) → length words ≡ 2
    → answer (load_step_face stiffness words)
    ≡ answer (and_then (step_order stiffness (load_of words))
    (λ after. give (after.x ∷ after.v ∷ [])))
unfolding load_step_face
load_steps stiffness words two = passes _ _ (eq-eqb _ _ two)

-- A kind that isn't 1.
second_unused : (kind : ℕ) (first second other : Float) → kind ≢ 1
    → force_of kind first second ≡ force_of kind first other
unfolding force_of
second_unused kind first second other h = rw (ne_eqb kind 1 h)

pub two_numbers : TwoNumbers
two_numbers = record { unused = second_unused }

pub thin : Thin
thin =
    record {
      opens = opens;
      reading = readings;
      deliver = delivers;
      digest = digests;
      shown = shows_place;
      merge = merges;
      load_step = load_steps;
      rope_step = steps;
    }

session_forth : (s : Session) → session_of (session_words s) ≡ s
unfolding session_words session_of
session_forth s = refl

pub nine_words : NineWords
nine_words =
    record {
      session = session_forth;
      words = session_back;
      whole = λ words l. bad_ranges (session_of words) l;
    }

pub load_face : LoadFace
load_face = record { numbers = load_numbers }
