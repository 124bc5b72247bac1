-- Laws of an order of refusals: a test that holds, a test that fails, what an acceptance says,
-- exactly when.
use Prim.Native.Nat.{ℕ}
use mathlib.Core.Path.{◌≡◌, refl, sym, ap, ◌∙◌, subst}
use mathlib.Core.Logic.{◌↔◌, ◌⊎◌, inl, inr, ⊎_elim}
use mathlib.Core.Bool.{Bool, true, false}
use Rattle.basis.specs.Order.{Answer, refused, accepted, Order, check, give, answer, and_then}
use Rattle.basis.specs.Order.{is_accepted, First, here, later, Passed, end, after}
use Rattle.basis.specs.Order.{Determines}
use Rattle.basis.proofs.Tests.{never}

module _ {A : Type 0} where
  -- A test that holds leaves the answer to the rest.
  pub passes : (n : ℕ) (rest : Order A) {t : Bool} → t ≡ true
      → answer (check t n rest) ≡ answer rest
  unfolding answer
  passes n rest e = rw e

  -- A test that fails gives its number.
  pub fails : (n : ℕ) (rest : Order A) {t : Bool} → t ≡ false → answer (check t n rest) ≡ refused n
  unfolding answer
  fails n rest e = rw e

  pub gives : (a : A) → answer (give a) ≡ accepted a
  unfolding answer
  gives a = refl

  -- A refusal is no acceptance.
  pub apart : {B : Type 0} {n : ℕ} {a : A} → ◌≡◌ {A = Answer A} (refused n) (accepted a) → B
  apart e = never refl (sym (ap is_accepted e))

  -- What an acceptance says of the first test, and of the rest.
  pub held : (t : Bool) (n : ℕ) (rest : Order A) {a : A} → answer (check t n rest) ≡ accepted a
      → (t ≡ true) × (answer rest ≡ accepted a)
  unfolding answer
  held true n rest e = (refl, e)
  held false n rest e = apart e

  pub given : (a : A) {b : A} → answer (give a) ≡ accepted b → a ≡ b
  unfolding answer
  given a e = cc

  first_of : (order : Order A) (n : ℕ) → answer order ≡ refused n → First n order
  unfolding answer
  first_of (check true m rest) n e = later (first_of rest n e)
  first_of (check false m rest) n e =
      let same : m ≡ n = cc in
      subst (λ k. First n (check false k rest)) (sym same) here
  first_of (give a) n e = apart (sym e)

  of_first : {n : ℕ} {order : Order A} → First n order → answer order ≡ refused n
  unfolding answer
  of_first here = refl
  of_first (later f) = of_first f

  passed_of : (order : Order A) (a : A) → answer order ≡ accepted a → Passed a order
  unfolding answer
  passed_of (check true m rest) a e = after (passed_of rest a e)
  passed_of (check false m rest) a e = apart e
  passed_of (give b) a e =
      let same : b ≡ a = cc in
      subst (λ x. Passed a (give x)) (sym same) end

  of_passed : {a : A} {order : Order A} → Passed a order → answer order ≡ accepted a
  unfolding answer
  of_passed end = refl
  of_passed (after p) = of_passed p

  pub exactly_first : (test : Bool) (number : ℕ) (rest : Order A) (n : ℕ)
      → First n (check test number rest)
      ↔ (((test ≡ false) × (number ≡ n)) ⊎ ((test ≡ true) × First n rest))
  exactly_first true number rest n = (
    λ f. inr (refl, below f),
    ⊎_elim (λ w. never refl w.0) (λ w. later w.1),
  )
    where
      below : First n (check true number rest) → First n rest
      below (later f) = f
  exactly_first false number rest n = (
    λ f. inl (refl, same f),
    ⊎_elim (λ w. subst (λ k. First n (check false k rest)) (sym w.1) here)
        (λ w. never w.0 refl),
  )
    where
      same : {k : ℕ} → First n (check false k rest) → k ≡ n
      same here = refl

  pub exactly_number : (order : Order A) (n : ℕ) → (answer order ≡ refused n) ↔ First n order
  exactly_number order n = (first_of order n, of_first)

  pub exactly_result : (order : Order A) (a : A) → (answer order ≡ accepted a) ↔ Passed a order
  exactly_result order a = (passed_of order a, of_passed)

-- An order that goes on answers as its first part does, or as what follows.
module _ {A B : Type 0} where
  onward : Answer A → (A → Order B) → Answer B
  onward (refused number) next = refused number
  onward (accepted a) next = answer (next a)

  then_answer : (order : Order A) (next : A → Order B)
      → answer (and_then order next) ≡ onward (answer order) next
  unfolding answer and_then onward
  then_answer (check true number rest) next = then_answer rest next
  then_answer (check false number rest) next = refl
  then_answer (give a) next = refl

  module _ (order : Order A) (next : A → Order B) where
    -- Where the first part refuses, so does the whole.
    pub stops : {number : ℕ} → answer order ≡ refused number
        → answer (and_then order next) ≡ refused number
    unfolding onward
    stops e = then_answer order next ∙ ap (λ first. onward first next) e

    -- Where it gives something, the second part decides.
    pub goes_on : {a : A} → answer order ≡ accepted a
        → answer (and_then order next) ≡ answer (next a)
    unfolding onward
    goes_on e = then_answer order next ∙ ap (λ first. onward first next) e

    pub exactly_further : (n : ℕ)
        → First n (and_then order next)
        ↔ (First n order ⊎ ((a : A) × Passed a order × First n (next a)))
    exactly_further n = (
      λ f. go (answer order) refl ((exactly_number _ n).1 f),
      ⊎_elim (λ f. (exactly_number _ n).0 (stops ((exactly_number order n).1 f)))
          (λ w.
          (exactly_number _ n).0
          (goes_on ((exactly_result order w.0).1 w.1) ∙ (exactly_number _ n).1 w.2)),
    )
      where
        go : (a : Answer A) → answer order ≡ a → answer (and_then order next) ≡ refused n
            → First n order ⊎ ((a : A) × Passed a order × First n (next a))
        go (refused m) e q =
            let same : m ≡ n = cc (stops e) in
            inl ((exactly_number order n).0 (e ∙ ap refused same))
        go (accepted a) e q =
            inr (a, (exactly_result order a).0 e, (exactly_number _ n).0 (sym (goes_on e) ∙ q))

-- An answer with what it gives put otherwise.
abbrev pub mapped : {A B : Type 0} → (A → B) → Answer A → Answer B
mapped f (refused number) = refused number
mapped f (accepted a) = accepted (f a)

-- Orders with the same tests answer alike.
module _ {B C : Type 0} (f : B → C) where
  pub give_alike : (b : B) → answer (give (f b)) ≡ mapped f (answer (give b))
  unfolding answer
  give_alike b = refl

  pub check_alike : (t : Bool) (number : ℕ) (rest : Order B) (other : Order C)
      → answer other ≡ mapped f (answer rest)
      → answer (check t number other) ≡ mapped f (answer (check t number rest))
  unfolding answer
  check_alike true number rest other e = e
  check_alike false number rest other e = refl

  pub then_alike : {A : Type 0} (first : Order A) (rest : A → Order B) (other : A → Order C)
      → ((a : A) → answer (other a) ≡ mapped f (answer (rest a)))
      → answer (and_then first other) ≡ mapped f (answer (and_then first rest))
  then_alike {A} first rest other alike = go (answer first) refl
    where
      go : (a : Answer A) → answer first ≡ a
          → answer (and_then first other) ≡ mapped f (answer (and_then first rest))
      go (refused number) q = stops first other q ∙ sym (ap (mapped f) (stops first rest q))
      go (accepted a) q =
          goes_on first other q ∙ alike a ∙ sym (ap (mapped f) (goes_on first rest q))

-- A contract that says what an outcome tells allows one, where no two outcomes tell the same.
pub one_outcome : {O C : Type 0} {tells : O → C} → ((a b : O) → tells a ≡ tells b → a ≡ b)
    → {this : C} → Determines (λ out. tells out ≡ this)
one_outcome apart-or-same a b p q = apart-or-same a b (p ∙ sym q)

-- So does one that says what the outcome is.
pub one_result : {A : Type 0} {this : A} → Determines (λ out. out ≡ this)
one_result a b p q = p ∙ sym q
