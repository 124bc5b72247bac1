-- The ten functions, number by number.
use Prim.Native.Nat.{ℕ, ◌-◌, ◌<◌, ◌≤◌}
use mathlib.Core.Path.{◌≡◌, refl, sym, ap, subst, ◌∙◌}
use mathlib.Core.Logic.Iff
use mathlib.Core.Logic.{◌↔◌, ◌⊎◌, ⊎_elim, inl, inr}
use mathlib.Core.Bool.{Bool, true, false, cond, ◌&&◌}
use mathlib.Core.List.{List}
use native.Mathlib.Omega.{arith}
use borrow.Author.Tests.{eqb-true, eqb-false}
use lib.Dec.{lit≤, leb, eqb}
use lib.IntN.{ℤ}
use lib.ListN.{length}
use Rattle.std.specs.Prelude.{Option, None, Some}
use Rattle.basis.specs.Filled.{Filled, filled}
use Rattle.basis.specs.LittleEndian.{Bytes}
use Rattle.basis.specs.Order.{Answer, refused, accepted, Order, answer, and_then}
use Rattle.basis.proofs.Tests.{never, says_eq, says_two, says_three}
use Rattle.record.specs.Bytes.{record_of, well_formed, read_order, write_order, limits_order}
use Rattle.record.specs.Facts.{Formed, LogValid}
use Rattle.record.specs.Buffer.{lever_at}
use Rattle.record.specs.Log.{sound_log}
use Rattle.record.specs.Place.{by_lever, row_serves}
use Rattle.record.specs.declared.bytes.Record.{Record}
use Rattle.record.proofs.Buffers.{held_climbs}
use Rattle.record.proofs.Members.{held_lever, lever_held}
use Rattle.record.proofs.Rules.{log_valid}
use Rattle.clock.specs.Reading.{given_by, clock_order}
use Rattle.yard.specs.Facts.{Valid}
use Rattle.yard.specs.Rule9.{cells_hold, sizes_hold, starts_hold}
use Rattle.yard.specs.declared.world.Yard.{Yard}
use Rattle.yard.proofs.Fits.{ranges, cells as cells-iff, sizes as sizes-iff, starts}
use Rattle.fleet.specs.Facts.{StateSound}
use Rattle.fleet.specs.State.{sound_state}
use Rattle.fleet.proofs.Carriers.{state_sound}
use Rattle.session.specs.Calls.{world_order, open_order, reading_order, deliver_order, replay_order}
use Rattle.session.specs.Calls.{digest_order, shown_order, opened, read_on, Delivery, take_in}
use Rattle.session.specs.Calls.{unchanged, found_in, row_in, previous}
use Rattle.session.specs.Facts.{Sound, HeldHere, NoneHere, RowSound}
use Rattle.session.specs.Lent.{Lent, Made, held_in, world_in}
use Rattle.session.specs.declared.Session.{Session}
use Rattle.session.proofs.Deliveries.{place_order}
use Rattle.session.proofs.Facts.{lengths_fit, room_fits, sound_means}
use Rattle.session.proofs.Good.{good}
use Rattle.station.specs.Face.{open_face, reading_face, deliver_face, digest_face, shown_face}
use Rattle.station.specs.Face.{shows}
use Rattle.station.specs.Face.{step_records_face, read_record_face, write_record_face}
use Rattle.station.specs.Left.{Left, left, fills, leaves_running, leaves_delivered}
use Rattle.station.specs.Says.{LogSoundSays, DeliverSays}
use Rattle.station.specs.Words.{session_of}
use Rattle.station.proofs.Statements.{nine_words}
use Rattle.face.specs.Numbers.{open_numbers, reading_numbers, place_numbers, deliver_numbers}
use Rattle.face.specs.Numbers.{sound_numbers}
use Rattle.face.specs.Statements.{ExactlyWhen}
use Rattle.face.specs.Table.{Table, Fills, Leaves, Gives}
use Rattle.face.proofs.Rungs.{By, told, like, rung, passed, end, joined, answers_by}
use Rattle.face.proofs.Rungs.{else_fact, else_le, else_lt, else_eq, else_or, absent, present}

abbrev pub all_done : {A : Type 0} → A → ℕ
all_done a = 255

-- A function that fills one slice.
filled_by : {A : Type 0} (before : List A) (out : Filled ℕ A) (order : Order (List A))
    {after : List A} {table : Table} → out ≡ fills before (answer order)
    → By 2 all_done (λ a. a ≡ after) order table → Fills before table out after
filled_by before out order {after} =
    answers_by (λ o. o.answer) all_done (fills before) (λ n. filled n before) (filled 255 after)
    numbered (λ n. refl) (λ a e. inl (ap (filled 255) e)) order out
  where
    numbered : (a : Answer _) → (fills before a).answer ≡ told all_done a
    numbered (refused n) = refl
    numbered (accepted a) = refl

-- One that may change the state, the rows, the log and the session.
module _ (l : Lent) (words : List ℕ) (out : Left) where
  opened_by : (order : Order (Made Session)) {this : Made Session} {table : Table}
      → out ≡ leaves_running l words (answer order)
      → By 2 all_done (λ m. m ≡ this) order table
      → Leaves 2 l words table out (leaves_running l words (accepted this))
  opened_by order {this} =
      answers_by {Right = λ m. m ≡ this} (λ o. o.number) all_done (leaves_running l words)
      (λ n. left n l.state l.rows l.log words) (leaves_running l words (accepted this))
      numbered (λ n. refl) (λ m e. inl (ap (λ k. leaves_running l words (accepted k)) e)) order out
    where
      numbered : (a : Answer (Made Session)) → (leaves_running l words a).number ≡ told all_done a
      numbered (refused n) = refl
      numbered (accepted m) = refl

  delivered_by : (bytes : List ℕ) {table : Table} → let s : Session = session_of words in
      let r : Record = record_of bytes in
      DeliverSays bytes l words out
      → By 1 (λ m. m.result.number)
      (λ m. (m ≡ take_in s l r) ⊎ ((m ≡ unchanged s l) × (length words ≡ 9)))
      (deliver_face bytes l words) table
      → Leaves 1 l words table out (leaves_delivered l words (accepted (take_in s l r)))
  delivered_by bytes =
      answers_by (λ o. o.number) (λ m. m.result.number) (leaves_delivered l words)
      (λ n. left n l.state l.rows l.log words)
      (leaves_delivered l words (accepted (take_in (session_of words) l (record_of bytes))))
      numbered (λ n. refl) right (deliver_face bytes l words) out
    where
      numbered : (a : Answer (Made Delivery))
          → (leaves_delivered l words a).number ≡ told (λ m. m.result.number) a
      numbered (refused n) = refl
      numbered (accepted m) = refl

      right : (m : Made Delivery)
          → (m ≡ take_in (session_of words) l (record_of bytes))
          ⊎ ((m ≡ unchanged (session_of words) l) × (length words ≡ 9))
          → (leaves_delivered l words (accepted m)
          ≡ leaves_delivered l words (accepted (take_in (session_of words) l (record_of bytes))))
          ⊎ ((1 ≤ m.result.number) × (m.result.number ≤ 14)
          × (leaves_delivered l words (accepted m)
          ≡ left m.result.number l.state l.rows l.log words))
      right m (inl e) = inl (ap (λ k. leaves_delivered l words (accepted k)) e)
      right m (inr (e, nine)) =
          inr (rw e (
            lit≤ tt,
            lit≤ tt,
            ap (left 1 l.state l.rows l.log) (nine_words.words words nine),
          ))

some_one : {a b : ℕ} → ◌≡◌ {A = Option ℕ} (Some a) (Some b) → a ≡ b
some_one e = cc

formed : (bytes : List ℕ) → (well_formed bytes ≡ true) ↔ Formed bytes
unfolding well_formed
formed bytes = says_three (says_eq _ _) (says_eq _ _) (says_eq _ _)

valid : (yard : Yard) (cells : List ℕ) (boxes : List ℤ)
    → ((cells_hold cells && (sizes_hold yard boxes && starts_hold yard cells boxes)) ≡ true)
    ↔ Valid yard cells boxes
valid yard cells boxes =
    Iff.trans
    (says_two (cells-iff cells) (says_two (sizes-iff yard boxes) (starts yard cells boxes))) (
      λ h. record { bytes = h.0; sizes = h.1.0; starts = h.1.1 },
      λ v. (v.bytes, (v.sizes, v.starts)),
    )

pub log_numbers : (log : List ℕ) (out : ℕ) → LogSoundSays log out
    → (n : ℕ) → (out ≡ n) ↔ Gives (sound_numbers log) n
log_numbers log out says n = go (sound_log 32 log) refl
  where
    v : (sound_log 32 log ≡ true) ↔ LogValid 32 log
    v = log_valid 32 log

    go : (t : Bool) → sound_log 32 log ≡ t
        → (out ≡ n) ↔ Gives (sound_numbers log) n
    go true e =
        let one : out ≡ 1 = says ∙ ap (λ (u : Bool). cond u 1 0) e in (
          λ q. inr (λ f. f (v.0 e), sym q ∙ one),
          ⊎_elim (λ h. absurd (h.0 (v.0 e))) (λ h. one ∙ sym h.1),
        )
    go false e =
        let zero : out ≡ 0 = says ∙ ap (λ (u : Bool). cond u 1 0) e in
        let nay : LogValid 32 log → ⊥ = λ f. never (v.1 f) e in (
          λ q. inl (nay, sym q ∙ zero),
          ⊎_elim (λ h. zero ∙ sym h.1) (λ h. absurd (h.0 nay)),
        )

-- 'then 1 or 6, then 7, 8, and last 14 for the row to be brought back', of a sound session.
module _ (s : Session) (l : Lent) (r : Record) (are : Bytes l.log) (sound : Sound s l) where
  here : (lever : ℕ) → (lever_at r.step r.carrier (held_in s l) ≡ Some lever)
      ↔ HeldHere s l r lever
  here lever = (
    lever_held (held_in s l),
    held_lever (held_climbs s.yard.b s.held l.log are
        (good s l ((sound_means s l).1 sound)).buffer),
  )

  row_fails : (row_serves r (found_in s l r) ≡ false)
      ↔ ((r.step < s.clock.steps) × (RowSound s l r.step → ⊥))
  row_fails =
      Iff.trans (else_or (leb s.clock.steps r.step) (found_in s l r).row) (
        λ h. ((else_le _ _).0 h.0, (else_fact _ row).0 h.1),
        λ h. ((else_le _ _).1 h.0, (else_fact _ row).1 h.1),
      )
    where
      row : (sound_state (world_in s l) (row_in s l r.step) ≡ true) ↔ RowSound s l r.step
      row = state_sound (world_in s l) (row_in s l r.step)

  by_place : {Right : Made Delivery → Type 0} → Right (unchanged s l) → Right (take_in s l r)
      → By 1 (λ m. m.result.number) Right (place_order s l r)
      (place_numbers s l r)
  unfolding take_in
  by_place {Right} same new = go (lever_at r.step r.carrier (held_in s l)) refl
    where
      Placed : Option ℕ → Type 0
      Placed o =
          By 1 (λ m. m.result.number) Right
          (by_lever r (found_in s l r) (unchanged s l) (take_in s l r) o) (place_numbers s l r)

      go : (o : Option ℕ) → lever_at r.step r.carrier (held_in s l) ≡ o → Placed o
      go (Some lever) e = lever_decides (eqb lever r.lever) refl
        where
          at : HeldHere s l r lever
          at = (here lever).0 e

          lever_decides : (t : Bool) → eqb lever r.lever ≡ t → Placed (Some lever)
          lever_decides true q =
              passed q (present refl same (subst (HeldHere s l r) (eqb-true _ _ q) at))
          lever_decides false q =
              absent (λ h. eqb-false _ _ q (some_one (sym e ∙ (here r.lever).1 h)))
              (rung refl (λ _ f. f lever at, λ _. q) λ k. never k q)
      go None e =
          let nothing : NoneHere s l r =
          λ lever h. cc (sym e ∙ (here lever).1 h) in
          absent (nothing r.lever)
          (absent (λ f. f nothing)
          (rung refl (else_le _ _) λ _.
          rung refl (else_lt _ _) λ _.
          rung refl row_fails λ _. end refl new))

-- The state before the last step isn't sound: of a sound session, its row isn't.
row_before : (s : Session) (l : Lent) → Sound s l
    → (sound_state (world_in s l) (previous s l) ≡ false)
    ↔ ((0 < s.clock.steps) × (RowSound s l (s.clock.steps - 1) → ⊥))
row_before s l sound = go (eqb s.clock.steps 0) refl
  where
    row : (state : List ℤ) → (sound_state (world_in s l) state ≡ true)
        ↔ StateSound (world_in s l) state
    row = state_sound (world_in s l)

    go : (t : Bool) → eqb s.clock.steps 0 ≡ t
        → (sound_state (world_in s l) (cond t l.state (row_in s l (s.clock.steps - 1))) ≡ false)
        ↔ ((0 < s.clock.steps) × (RowSound s l (s.clock.steps - 1) → ⊥))
    go true e = (
      λ q. never ((row l.state).1 sound.state) q,
      λ h. absurd (omega (arith, h.0, eqb-true s.clock.steps 0 e)),
    )
    go false e =
        let f = else_fact _ (row (row_in s l (s.clock.steps - 1))) in
        let made : 0 < s.clock.steps = omega (arith, eqb-false s.clock.steps 0 e) in
        (λ q. (made, f.0 q), λ h. f.1 h.1)

pub open_by : (yard : Yard) (t : ℕ) (l : Lent) (words : List ℕ)
    → By 2 all_done (λ m. m ≡ opened yard t l) (open_face yard t l words)
    (open_numbers yard l words)
unfolding open_face open_order world_order and_then
open_by yard t l words =
    rung refl (else_fact _ (ranges yard)) λ fit.
    rung refl (else_eq _ _) λ _.
    passed fit
    (rung refl (else_fact _ (room_fits yard l)) λ _.
    like (joined (cells_hold l.cells) (sizes_hold yard l.boxes) _ _ _)
    (rung refl (else_fact _ (valid yard l.cells l.boxes)) λ _.
    end refl refl))

pub reading_by : (t : ℕ) (l : Lent) (words : List ℕ) → let s : Session = session_of words in
    By 2 all_done (λ m. m ≡ read_on s l (given_by 20000 s.clock t)) (reading_face t l words)
    (reading_numbers t l words)
unfolding reading_face reading_order clock_order and_then
reading_by t l words =
    rung refl (else_eq _ _) λ _.
    rung refl (else_fact _ (sound_means (session_of words) l)) λ ok.
    passed (good (session_of words) l ok).clock
    (rung refl (else_le _ _) λ _.
    rung refl (else_le _ _) λ _. end refl refl)

pub deliver_by : (bytes : List ℕ) (l : Lent) (words : List ℕ) → Bytes l.log
    → let s : Session = session_of words in
    By 1 (λ m. m.result.number)
    (λ m. (m ≡ take_in s l (record_of bytes)) ⊎ ((m ≡ unchanged s l) × (length words ≡ 9)))
    (deliver_face bytes l words) (deliver_numbers bytes l words)
unfolding deliver_face deliver_order read_order limits_order and_then
deliver_by bytes l words are =
    rung refl (else_eq _ _) λ nine.
    rung refl (else_fact _ (sound_means (session_of words) l)) λ ok.
    rung refl (else_fact _ (formed bytes)) λ _.
    rung refl (else_lt _ _) λ _.
    rung refl (else_le _ _) λ _.
    rung refl (else_lt _ _) λ _.
    by_place (session_of words) l (record_of bytes) are ((sound_means (session_of words) l).0 ok)
    (inr (refl, eqb-true _ _ nine)) (inl refl)

pub exactly_when : ExactlyWhen
unfolding replay_order world_order digest_face digest_order shown_face shown_order shows
    step_records_face read_record_face write_record_face read_order write_order limits_order
    and_then
exactly_when =
    record {
      opens = λ yard t l words out says. opened_by l words out _ says (open_by yard t l words);
      reading = λ t l words out says. opened_by l words out _ says (reading_by t l words);
      deliver = λ bytes l words out are says.
          delivered_by l words out bytes says (deliver_by bytes l words are);
      replay = λ yard steps cells boxes state log out says.
          filled_by state out _ says
          (rung refl (else_fact _ (ranges yard)) λ _.
          rung refl (else_fact _ (lengths_fit yard cells boxes state)) λ _.
          like (joined (cells_hold cells) (sizes_hold yard boxes) _ _ _)
          (rung refl (else_fact _ (valid yard cells boxes)) λ _.
          rung refl (else_fact _ (log_valid yard.b log)) λ _.
          rung refl (else_le _ _) λ _. end refl refl));
      digest = λ l words before out says.
          filled_by before out _ says
          (rung refl (else_eq _ _) λ _.
          rung refl (else_eq _ _) λ _.
          rung refl (else_fact _ (sound_means (session_of words) l)) λ _.
          end refl refl);
      shown = λ i l words before out says.
          filled_by before out _ says
          (rung refl (else_eq _ _) λ _.
          rung refl (else_eq _ _) λ _.
          rung refl (else_fact _ (sound_means (session_of words) l)) λ ok.
          rung refl (else_lt _ _) λ _.
          rung refl (row_before (session_of words) l ((sound_means (session_of words) l).0 ok)) λ _.
          end refl refl);
      log_sound = log_numbers;
      step_records = λ log step before out says.
          filled_by before out _ says
          (rung refl (else_eq _ _) λ _. end refl refl);
      read_record = λ bytes before out says.
          filled_by before out _ says
          (rung refl (else_fact _ (formed bytes)) λ _.
          rung refl (else_lt _ _) λ _.
          rung refl (else_le _ _) λ _.
          rung refl (else_lt _ _) λ _.
          rung refl (else_eq _ _) λ _. end refl refl);
      write_record = λ step carrier lever before out says.
          filled_by before out _ says
          (rung refl (else_lt _ _) λ _.
          rung refl (else_le _ _) λ _.
          rung refl (else_lt _ _) λ _.
          rung refl (else_eq _ _) λ _. end refl refl);
    }
