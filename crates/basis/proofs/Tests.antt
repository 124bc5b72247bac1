-- Laws of tests: a conjunction and its parts, a test that is both true and false, a choice by a
-- test, what a call answered, and the fact that a test says.
use Prim.Native.Nat.{ℕ, ◌≤◌, ◌<◌}
use mathlib.Core.Path.{◌≡◌, refl, sym, ◌∙◌}
use mathlib.Core.Logic.{◌↔◌, ◌⊎◌, inl, inr, ⊎_elim}
use mathlib.Core.Bool.{Bool, true, false, cond, ◌&&◌, ◌||◌, true≢false}
use lib.Dec.{leb, ltb, eqb}
use borrow.Author.Tests.{leb-true, ltb-true, eqb-true, le-leb, lt-ltb, eq-eqb}

pub never : {A : Type 0} {t : Bool} → t ≡ true → t ≡ false → A
never p q = absurd (true≢false (sym p ∙ q))

pub and_left : (s t : Bool) → (s && t) ≡ true → s ≡ true
and_left true t e = refl
and_left false t e = e

pub and_right : (s t : Bool) → (s && t) ≡ true → t ≡ true
and_right true t e = e
and_right false t e = never e refl

pub and_both : {s t : Bool} → s ≡ true → t ≡ true → (s && t) ≡ true
and_both {s} {t} p q = rw (p, q)

pub not_left : (s t : Bool) → s ≡ false → (s && t) ≡ false
not_left s t p = rw p

pub not_right : (s t : Bool) → t ≡ false → (s && t) ≡ false
not_right true t p = p
not_right false t p = refl

-- What holds of each branch, where its test holds, is true of a choice between the two.
pub of_cond : {A : Type 0} (P : A → Type 0) (t : Bool) {x y : A} → (t ≡ true → P x)
    → (t ≡ false → P y) → P (cond t x y)
of_cond P true f g = f refl
of_cond P false f g = g refl

-- What a call answered, where `if !call(..)` was passed and where it was taken.
pub passed : {r a : Bool} → r ≡ a → r ≡ true → a ≡ true
passed e h = sym e ∙ h

pub failed : {r a : Bool} → r ≡ a → r ≡ false → a ≡ false
failed e h = sym e ∙ h

-- The fact that a test of two numbers says.
pub says_le : (a b : ℕ) → (leb a b ≡ true) ↔ (a ≤ b)
says_le a b = (leb-true a b, le-leb a b)

pub says_lt : (a b : ℕ) → (ltb a b ≡ true) ↔ (a < b)
says_lt a b = (ltb-true a b, lt-ltb a b)

pub says_eq : (a b : ℕ) → (eqb a b ≡ true) ↔ (a ≡ b)
says_eq a b = (eqb-true a b, eq-eqb a b)

-- Where each of two, three or four tests says a fact, together they say all of these.
pub says_two : {P Q : Type 0} {s t : Bool} → (s ≡ true) ↔ P → (t ≡ true) ↔ Q
    → ((s && t) ≡ true) ↔ (P × Q)
says_two {s = s} {t = t} p q = (
  λ e. (p.0 (and_left s t e), q.0 (and_right s t e)),
  λ h. and_both (p.1 h.0) (q.1 h.1),
)

pub says_three : {P Q R : Type 0} {s t u : Bool} → (s ≡ true) ↔ P → (t ≡ true) ↔ Q
    → (u ≡ true) ↔ R → ((s && t && u) ≡ true) ↔ (P × Q × R)
says_three p q r =
    let both = says_two (says_two p q) r in
    (λ e. let h = both.0 e in (h.0.0, h.0.1, h.1), λ h. both.1 ((h.0, h.1), h.2))

pub says_four : {P Q R S : Type 0} {s t u v : Bool} → (s ≡ true) ↔ P → (t ≡ true) ↔ Q
    → (u ≡ true) ↔ R → (v ≡ true) ↔ S → ((s && t && u && v) ≡ true) ↔ (P × Q × R × S)
says_four p q r f =
    let both = says_two (says_three p q r) f in (
      λ e. let h = both.0 e in (h.0.0, h.0.1, h.0.2, h.1),
      λ h. both.1 ((h.0, h.1, h.2), h.3),
    )

pub says_either : {P Q : Type 0} {s t : Bool} → (s ≡ true) ↔ P → (t ≡ true) ↔ Q
    → ((s || t) ≡ true) ↔ (P ⊎ Q)
says_either {s = true} p q = (λ e. inl (p.0 refl), λ h. refl)
says_either {s = false} p q = (λ e. inr (q.0 e), ⊎_elim (λ h. never (p.1 h) refl) q.1)

pub neither : (s t : Bool) → (s || t) ≡ false → (s ≡ false) × (t ≡ false)
neither true t e = never refl e
neither false t e = (refl, e)

-- Two tests that say one fact are one test.
pub alike : {P : Type 0} {s t : Bool} → (s ≡ true) ↔ P → (t ≡ true) ↔ P → s ≡ t
alike {s = true} p q = sym (q.1 (p.0 refl))
alike {s = false} {t = true} p q = p.1 (q.0 refl)
alike {s = false} {t = false} p q = refl
