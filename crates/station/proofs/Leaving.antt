-- What a call of `session` leaves, as the C face gives it.
use Prim.Native.Nat.{ℕ}
use mathlib.Core.Path.{◌≡◌, refl, sym, ap, ◌∙◌}
use mathlib.Core.Bool.{Bool, true, false}
use mathlib.Core.List.{List}
use lib.IntN.{ℤ}
use lib.ListN.{length}
use borrow.Author.Tests.{eq-eqb, ne_eqb}
use Rattle.basis.specs.Numbers.{WORLD, ROOM, FAULT}
use Rattle.basis.specs.Order.{Answer, refused, accepted, Order, check, answer, and_then}
use Rattle.basis.proofs.Order.{passes, fails}
use Rattle.session.specs.Calls.{Delivery, world_order, open_order, reading_order, deliver_order}
use Rattle.session.specs.Lent.{Lent, Made, made, leaves as sessionLeaves}
use Rattle.session.specs.declared.Session.{Session}
use Rattle.session.specs.Sound.{sound}
use Rattle.yard.specs.Rule9.{ranges_hold}
use Rattle.yard.specs.declared.world.Yard.{Yard}
use Rattle.station.specs.Face.{open_face, reading_face, deliver_face}
use Rattle.station.specs.Left.{Left, left, leaves_by, leaves_running, leaves_delivered, DONE}
use Rattle.station.specs.Words.{session_words, session_of, nine, words_order}
use Rattle.station.proofs.Sessions.{read_nine, read_session, unread}

-- What the C face makes of an answer, and of what it leaves.
abbrev as_left : {A : Type 0} → (A → ℕ) → (A → Session) → List ℕ → Answer A → List ℤ → List ℤ
    → List ℕ → Left
as_left number-of session-of words (refused number) state rows log =
    left number state rows log words
as_left number-of session-of words (accepted a) state rows log =
    left (number-of a) state rows log (session_words (session-of a))

module _ {A : Type 0} (number-of : A → ℕ) (session-of : A → Session) (words : List ℕ) (l : Lent)
  where
    as_leaves : (b : Answer (Made A)) → let x = sessionLeaves l b in
        as_left number-of session-of words x.result x.state x.rows x.log
        ≡ leaves_by number-of session-of l words b
    as_leaves (refused number) = refl
    as_leaves (accepted m) = refl

    leaving : (b : Answer (Made A)) {a : Answer A} {state rows : List ℤ} {log : List ℕ}
        → made a state rows log ≡ sessionLeaves l b
        → as_left number-of session-of words a state rows log
        ≡ leaves_by number-of session-of l words b
    leaving b e =
        ap
        (λ (x : Made (Answer A)). as_left number-of session-of words x.result x.state x.rows x.log)
        e
        ∙ as_leaves b

    -- A call with a session: 14 where the words are none; where they are, its own order decides.
    unread_left : (rest : Order (Made A)) {number : ℕ}
        → answer (words_order words) ≡ refused number
        → left number l.state l.rows l.log words
        ≡ leaves_by number-of session-of l words
        (answer (check (nine words) FAULT (check (sound (session_of words) l) FAULT rest)))
    unread_left rest e =
        sym (ap (leaves_by number-of session-of l words) (unread words l rest e))

    read_left : (order : Session → Order (Made A)) {s : Session}
        → answer (words_order words) ≡ accepted s
        → {a : Answer A} {state rows : List ℤ} {log : List ℕ}
        → made a state rows log ≡ sessionLeaves l (answer (order s))
        → as_left number-of session-of words a state rows log
        ≡ leaves_by number-of session-of l words
        (answer (check (nine words) FAULT (order (session_of words))))
    read_left order {s} read e =
        let decides : answer (check (nine words) FAULT (order (session_of words)))
        ≡ answer (order s) =
        passes _ _ (read_nine words read) ∙ ap (λ x. answer (order x)) (read_session words read) in
        leaving (answer (order s)) e ∙ sym (ap (leaves_by number-of session-of l words) decides)

-- Opening and a reading, which give 255 and the session.
abbrev pub as_running : List ℕ → Answer Session → List ℤ → List ℤ → List ℕ → Left
as_running = as_left (λ session. DONE) (λ session. session)

-- A delivery, which gives 0 or 1 and the session.
abbrev pub as_delivered : List ℕ → Answer Delivery → List ℤ → List ℤ → List ℕ → Left
as_delivered = as_left (λ delivery. delivery.number) (λ delivery. delivery.session)

module _ (t : ℕ) (l : Lent) (words : List ℕ) where
  pub reading_unread : {number : ℕ} → answer (words_order words) ≡ refused number
      → left number l.state l.rows l.log words
      ≡ leaves_running l words (answer (reading_face t l words))
  unfolding reading_face reading_order
  reading_unread e = unread_left _ _ words l _ e

  pub reading_left : {s : Session} → answer (words_order words) ≡ accepted s
      → {a : Answer Session} {state rows : List ℤ} {log : List ℕ}
      → made a state rows log ≡ sessionLeaves l (answer (reading_order s l t))
      → as_running words a state rows log
      ≡ leaves_running l words (answer (reading_face t l words))
  unfolding reading_face
  reading_left read e =
      read_left (λ session. DONE) (λ session. session) words l (λ s. reading_order s l t) read e

module _ (bytes : List ℕ) (l : Lent) (words : List ℕ) where
  pub deliver_unread : {number : ℕ} → answer (words_order words) ≡ refused number
      → left number l.state l.rows l.log words
      ≡ leaves_delivered l words (answer (deliver_face bytes l words))
  unfolding deliver_face deliver_order
  deliver_unread e = unread_left _ _ words l _ e

  pub deliver_left : {s : Session} → answer (words_order words) ≡ accepted s
      → {a : Answer Delivery} {state rows : List ℤ} {log : List ℕ}
      → made a state rows log ≡ sessionLeaves l (answer (deliver_order s l bytes))
      → as_delivered words a state rows log
      ≡ leaves_delivered l words (answer (deliver_face bytes l words))
  unfolding deliver_face
  deliver_left read e =
      read_left (λ delivery. delivery.number) (λ delivery. delivery.session) words l
      (λ s. deliver_order s l bytes) read e

-- Opening tests the ranges first, and the face does so too.
module _ (yard : Yard) (t : ℕ) (l : Lent) (words : List ℕ) where
  pub open_world : ranges_hold yard ≡ false
      → left WORLD l.state l.rows l.log words
      ≡ leaves_running l words (answer (open_face yard t l words))
  unfolding open_face
  open_world e = sym (ap (leaves_running l words) (fails _ _ e))

  pub open_room : ranges_hold yard ≡ true → (length words ≡ 9 → ⊥)
      → left ROOM l.state l.rows l.log words
      ≡ leaves_running l words (answer (open_face yard t l words))
  unfolding open_face
  open_room e h = sym (ap (leaves_running l words) (passes _ _ e ∙ fails _ _ (ne_eqb _ _ h)))

  decides : length words ≡ 9 → answer (open_face yard t l words) ≡ answer (open_order yard t l)
  unfolding open_face open_order world_order and_then
  decides long = go (ranges_hold yard) refl
    where
      go : (b : Bool) → ranges_hold yard ≡ b
          → answer (open_face yard t l words) ≡ answer (open_order yard t l)
      go true e = passes _ _ e ∙ passes _ _ (eq-eqb _ _ long)
      go false e = fails _ _ e ∙ sym (fails _ _ e)

  pub open_left : length words ≡ 9
      → {a : Answer Session} {state rows : List ℤ} {log : List ℕ}
      → made a state rows log ≡ sessionLeaves l (answer (open_order yard t l))
      → as_running words a state rows log
      ≡ leaves_running l words (answer (open_face yard t l words))
  open_left long e =
      leaving _ _ words l (answer (open_order yard t l)) e
      ∙ sym (ap (leaves_running l words) (decides long))
