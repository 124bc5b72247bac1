-- Nine words read as a session; words that are none of the library: 14, whatever else is lent.
use Prim.Native.Nat.{ℕ, ◌<◌, ◌≤◌, ◌^◌}
use mathlib.Core.Path.{◌≡◌, refl, sym, ap, ◌∙◌}
use mathlib.Core.Bool.{Bool, true, false, ◌&&◌}
use mathlib.Core.List.{List}
use native.Mathlib.Omega.{arith}
use lib.ListN.{get_or, length}
use borrow.Author.Tests.{eq-eqb, ne_eqb, lt-ltb, le-ltb, eqb-true}
use Rattle.basis.specs.Numbers.{FAULT}
use Rattle.basis.specs.Order.{Order, check, answer, refused, accepted}
use Rattle.basis.proofs.Order.{passes, fails, gives, given, apart}
use Rattle.basis.proofs.Tests.{never, and_left, and_both}
use Rattle.session.specs.Lent.{Lent}
use Rattle.session.specs.Sound.{sound}
use Rattle.session.specs.declared.Session.{Session}
use Rattle.session.proofs.Good.{good}
use Rattle.session.proofs.Room.{width_most, height_most, carriers_most}
use Rattle.station.specs.Words.{session_of, nine, fits_u32, words_fit, words_order}

-- The ways through the reading of nine words.
module _ (words : List ℕ) where
  pub not_nine : (length words ≡ 9 → ⊥) → answer (words_order words) ≡ refused FAULT
  unfolding words_order words_fit answer
  not_nine h = rw (ne_eqb _ _ h)

  module _ (long : length words ≡ 9) where
    pub no_width : 2 ^ 32 ≤ get_or words 0 0 → answer (words_order words) ≡ refused FAULT
    unfolding words_order words_fit answer
    no_width w = rw (eq-eqb _ _ long, le-ltb _ _ w)

    module _ (w : get_or words 0 0 < 2 ^ 32) where
      pub no_height : 2 ^ 32 ≤ get_or words 1 0 → answer (words_order words) ≡ refused FAULT
      unfolding words_order words_fit answer
      no_height h = rw (eq-eqb _ _ long, lt-ltb _ _ w, le-ltb _ _ h)

      module _ (h : get_or words 1 0 < 2 ^ 32) where
        pub no_carriers : 2 ^ 32 ≤ get_or words 2 0 → answer (words_order words) ≡ refused FAULT
        unfolding words_order words_fit answer
        no_carriers b = rw (eq-eqb _ _ long, lt-ltb _ _ w, lt-ltb _ _ h, le-ltb _ _ b)

        pub are_session : get_or words 2 0 < 2 ^ 32
            → answer (words_order words) ≡ accepted (session_of words)
        unfolding words_order words_fit answer
        are_session b = rw (eq-eqb _ _ long, lt-ltb _ _ w, lt-ltb _ _ h, lt-ltb _ _ b)

-- What the reading says of the words.
module _ (words : List ℕ) where
  read_gives : {s : Session} → answer (words_order words) ≡ accepted s
      → (words_fit words ≡ true) × (session_of words ≡ s)
  unfolding words_order
  read_gives e = go (words_fit words) refl e
    where
      go : (t : Bool) → words_fit words ≡ t → {s : Session}
          → answer (words_order words) ≡ accepted s
          → (words_fit words ≡ true) × (session_of words ≡ s)
      go true fits q = (fits, given _ (sym (passes _ _ fits) ∙ q))
      go false none q = apart (sym (fails _ _ none) ∙ q)

  read_fails : {number : ℕ} → answer (words_order words) ≡ refused number
      → (words_fit words ≡ false) × (FAULT ≡ number)
  unfolding words_order
  read_fails {number} e = go (words_fit words) refl
    where
      go : (t : Bool) → words_fit words ≡ t → (words_fit words ≡ false) × (FAULT ≡ number)
      go true fits = apart (sym e ∙ passes _ _ fits ∙ gives _)
      go false none = let same : FAULT ≡ number = cc (sym e ∙ fails _ _ none) in (none, same)

  pub read_nine : {s : Session} → answer (words_order words) ≡ accepted s → nine words ≡ true
  unfolding words_fit
  read_nine e =
      let w = fits_u32 (get_or words 0 0) in
      let h = fits_u32 (get_or words 1 0) in
      and_left (nine words) w
      (and_left (nine words && w) h
      (and_left (nine words && w && h) (fits_u32 (get_or words 2 0)) (read_gives e).0))

  pub read_long : {s : Session} → answer (words_order words) ≡ accepted s → length words ≡ 9
  read_long e = eqb-true _ _ (read_nine e)

  pub read_session : {s : Session} → answer (words_order words) ≡ accepted s
      → session_of words ≡ s
  read_session e = (read_gives e).1

  -- A sound session's words fit: W and H are at most 64, and B is at most 32.
  sound_fit : (l : Lent) → nine words ≡ true → sound (session_of words) l ≡ true
      → words_fit words ≡ true
  unfolding words_fit session_of
  sound_fit l n e =
      let ranges = (good (session_of words) l e).ranges in
      let yard = (session_of words).yard in
      let w : get_or words 0 0 < 2 ^ 32 = omega (arith, width_most yard ranges) in
      let h : get_or words 1 0 < 2 ^ 32 = omega (arith, height_most yard ranges) in
      let b : get_or words 2 0 < 2 ^ 32 = omega (arith, carriers_most yard ranges) in
      and_both (and_both (and_both n (lt-ltb _ _ w)) (lt-ltb _ _ h)) (lt-ltb _ _ b)

  -- The first two tests of a call with a session, where its words aren't read.
  pub unread : {A : Type 0} (l : Lent) (rest : Order A) {number : ℕ}
      → answer (words_order words) ≡ refused number
      → answer (check (nine words) FAULT (check (sound (session_of words) l) FAULT rest))
      ≡ refused number
  unread l rest e =
      let none = read_fails e in
      go (nine words) refl (sound (session_of words) l) refl none.0 ∙ ap refused none.1
    where
      go : (n : Bool) → nine words ≡ n → (s : Bool) → sound (session_of words) l ≡ s
          → words_fit words ≡ false
          → answer (check (nine words) FAULT (check (sound (session_of words) l) FAULT rest))
          ≡ refused FAULT
      go false n s q none = fails _ _ n
      go true n false q none = passes _ _ n ∙ fails _ _ q
      go true n true q none = never (sound_fit l n q) none
