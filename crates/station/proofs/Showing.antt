-- The ways through a call that only shows something of a session.
use Prim.Native.Nat.{ℕ}
use mathlib.Core.Path.{◌≡◌, ap, ◌∙◌}
use mathlib.Core.Bool.{true}
use mathlib.Core.List.{List, [], ◌∷◌}
use lib.Ieee.{Float}
use lib.ListN.{length}
use borrow.Author.Tests.{eq-eqb, ne_eqb}
use Rattle.basis.specs.Numbers.{FAULT}
use Rattle.basis.specs.Order.{Order, check, give, and_then, answer, refused, accepted}
use Rattle.basis.proofs.Order.{passes, fails, gives, stops, goes_on}
use Rattle.session.specs.Calls.{digest_order, shown_order}
use Rattle.session.specs.Lent.{Lent}
use Rattle.session.specs.Sound.{sound}
use Rattle.session.specs.declared.Session.{Session}
use Rattle.shown.specs.declared.Place.{Place}
use Rattle.station.specs.Face.{shows, digest_face, shown_face}
use Rattle.station.specs.Words.{session_of, nine, words_order}
use Rattle.station.proofs.Sessions.{read_nine, read_session, unread}

module _ {A B : Type 0} (count : ℕ) (out : List B) (words : List ℕ) (parts : A → List B) where
  wrong_out : (order : Order A) → (length out ≡ count → ⊥)
      → answer (shows count out words order parts) ≡ refused FAULT
  unfolding shows
  wrong_out order h = fails _ _ (ne_eqb _ _ h)

  module _ (long : length out ≡ count) where
    -- With both lengths right, what is shown decides.
    pub shows_order : (order : Order A) → nine words ≡ true
        → answer (shows count out words order parts)
        ≡ answer (and_then order (λ a. give (parts a)))
    unfolding shows
    shows_order order e = passes _ _ (eq-eqb _ _ long) ∙ passes _ _ e

    -- Words that are no session: the session is tested first in what is shown.
    shows_unread : (l : Lent) (rest : Order A) {number : ℕ}
        → answer (words_order words) ≡ refused number
        → answer (shows count out words (check (sound (session_of words) l) FAULT rest) parts)
        ≡ refused number
    unfolding shows and_then
    shows_unread l rest e = passes _ _ (eq-eqb _ _ long) ∙ unread words l _ e

    module _ (order : Session → Order A) {s : Session}
        (read : answer (words_order words) ≡ accepted s)
      where
        decides : answer (shows count out words (order (session_of words)) parts)
            ≡ answer (and_then (order s) (λ a. give (parts a)))
        decides =
            shows_order _ (read_nine words read)
            ∙ ap (λ x. answer (and_then (order x) (λ a. give (parts a)))) (read_session words read)

        shows_refused : {number : ℕ} → answer (order s) ≡ refused number
            → answer (shows count out words (order (session_of words)) parts) ≡ refused number
        shows_refused q = decides ∙ stops _ _ q

        shows_given : {a : A} → answer (order s) ≡ accepted a
            → answer (shows count out words (order (session_of words)) parts) ≡ accepted (parts a)
        shows_given q = decides ∙ goes_on _ _ q ∙ gives _

-- The digest, into one word.
module _ (l : Lent) (words out : List ℕ) where
  pub digest_room : (length out ≡ 1 → ⊥) → answer (digest_face l words out) ≡ refused FAULT
  unfolding digest_face
  digest_room h = wrong_out _ _ _ _ _ h

  module _ (long : length out ≡ 1) where
    pub digest_unread : {number : ℕ} → answer (words_order words) ≡ refused number
        → answer (digest_face l words out) ≡ refused number
    unfolding digest_face digest_order
    digest_unread e = shows_unread _ _ _ _ long l _ e

    module _ {s : Session} (read : answer (words_order words) ≡ accepted s) where
      pub digest_refused : {number : ℕ} → answer (digest_order s l) ≡ refused number
          → answer (digest_face l words out) ≡ refused number
      unfolding digest_face
      digest_refused e = shows_refused _ _ _ _ long (λ s. digest_order s l) read e

      pub digest_given : {value : ℕ} → answer (digest_order s l) ≡ accepted value
          → answer (digest_face l words out) ≡ accepted (value ∷ [])
      unfolding digest_face
      digest_given e = shows_given _ _ _ _ long (λ s. digest_order s l) read e

-- The shown place, into two f64.
module _ (carrier : ℕ) (l : Lent) (words : List ℕ) (out : List Float) where
  pub shown_room : (length out ≡ 2 → ⊥) → answer (shown_face carrier l words out) ≡ refused FAULT
  unfolding shown_face
  shown_room h = wrong_out _ _ _ _ _ h

  module _ (long : length out ≡ 2) where
    pub shown_unread : {number : ℕ} → answer (words_order words) ≡ refused number
        → answer (shown_face carrier l words out) ≡ refused number
    unfolding shown_face shown_order
    shown_unread e = shows_unread _ _ _ _ long l _ e

    module _ {s : Session} (read : answer (words_order words) ≡ accepted s) where
      pub shown_refused : {number : ℕ} → answer (shown_order s l carrier) ≡ refused number
          → answer (shown_face carrier l words out) ≡ refused number
      unfolding shown_face
      shown_refused e = shows_refused _ _ _ _ long (λ s. shown_order s l carrier) read e

      pub shown_given : {place : Place} → answer (shown_order s l carrier) ≡ accepted place
          → answer (shown_face carrier l words out) ≡ accepted (place.x ∷ place.y ∷ [])
      unfolding shown_face
      shown_given e = shows_given _ _ _ _ long (λ s. shown_order s l carrier) read e
