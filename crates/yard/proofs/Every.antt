-- Laws of `every`: all numbers below n pass a test.
use Prim.Native.Nat.{ℕ, zero, suc, ◌+◌, ◌≤◌, ◌<◌}
use mathlib.Core.Path.{◌≡◌, refl, sym, ap, ◌∙◌}
use mathlib.Core.Bool.{Bool, true, false}
use mathlib.Core.List.{List, [], ◌∷◌}
use mathlib.Core.Logic.{⊎_elim, ◌↔◌}
use native.Mathlib.Nat.{eq-or-lt_of_le, le_of_suc-le-suc}
use native.Mathlib.Omega.{arith}
use borrow.Author.Count.{below_more}
use lib.ListN.{get_or, length}
use Rattle.basis.proofs.Tests.{and_both, and_left, and_right, never, passed, failed}
use Rattle.std.specs.List.{list_all, range_with_len}
use Rattle.std.proofs.lemmas.List.Folds.{list_all_at}
use Rattle.std.proofs.lemmas.List.FromFn.{length-range_with_len, get_or-range_with_len}
use Rattle.yard.specs.Ranges.{every}
use Rattle.yard.proofs.Cases.{either}

module _ (test : ℕ → Bool) where
  pub all_pass : (n : ℕ) → ((k : ℕ) → k < n → test k ≡ true) → every n test ≡ true
  unfolding every
  all_pass zero h = refl
  all_pass (suc n) h = and_both (all_pass n (λ k l. h k (omega arith))) (h n (omega arith))

  pub passes : (n : ℕ) → every n test ≡ true → (k : ℕ) → k < n → test k ≡ true
  unfolding every
  passes zero e k l = absurd (omega arith)
  passes (suc n) e k l =
      ⊎_elim (λ q. rw q (and_right (every n test) (test n) e))
      (λ h. passes n (and_left (every n test) (test n) e) k h)
      (eq-or-lt_of_le (le_of_suc-le-suc l))

  pub one_fails : (n k : ℕ) → k < n → test k ≡ false → every n test ≡ false
  one_fails n k l e = ⊎_elim (λ p. never (passes n p k l) e) (λ p. p) (either (every n test))

  -- A loop of tests: those below i have passed. A call that answers no ends it; one that answers
  -- yes passes i too; where all n have passed, it is at its end.
  abbrev pub Below : ℕ → Type 0
  Below i = (k : ℕ) → k < i → test k ≡ true

  pub stops : {n i : ℕ} {r : Bool} → i < n → r ≡ test i → r ≡ false → false ≡ every n test
  stops {n} {i} l e t = sym (one_fails n i l (failed e t))

  pub goes_on : {i : ℕ} {r : Bool} → Below i → r ≡ test i → r ≡ true → Below (i + 1)
  goes_on h e t = below_more _ _ h (passed e t)

  pub ends : {n i : ℕ} → Below i → n ≤ i → true ≡ every n test
  ends {n} h l = sym (all_pass n (λ k m. h k (omega arith)))

  -- Where each test says a fact, all of them say each fact.
  pub each : {P : ℕ → Type 0} (n : ℕ) → ((k : ℕ) → (test k ≡ true) ↔ P k)
      → (every n test ≡ true) ↔ ((k : ℕ) → k < n → P k)
  each n f = (λ e k l. (f k).0 (passes n e k l), λ g. all_pass n (λ k l. (f k).1 (g k l)))

-- Tests are the same where each passes if the other does.
same : (a b : Bool) → (a ≡ true → b ≡ true) → (b ≡ true → a ≡ true) → a ≡ b
same true b f g = sym (f refl)
same false true f g = never (g refl) refl
same false false f g = refl

list_passes : (test : ℕ → Bool) (list : List ℕ)
    → ((k : ℕ) → k < length list → test (get_or list k 0) ≡ true) → list_all test list ≡ true
list_passes test [] h = refl
list_passes test (a ∷ list) h =
    and_both (h 0 (omega arith)) (list_passes test list (λ k l. h (suc k) (omega arith)))

-- What a call of `all` comes to, over a list and over the numbers below n.
pub over_list : (test : ℕ → Bool) (list : List ℕ)
    → list_all test list ≡ every (length list) (λ k. test (get_or list k 0))
over_list test list =
    let at = λ (k : ℕ). test (get_or list k 0) in
    same _ _
    (λ p. all_pass at (length list)
    (λ k l. ⊎_elim (λ t. t) (λ e. never p (list_all_at test list k 0 l e)) (either (at k))))
    (λ p. list_passes test list (passes at (length list) p))

every_same : (f g : ℕ → Bool) (n : ℕ) → ((k : ℕ) → k < n → f k ≡ g k) → every n f ≡ every n g
unfolding every
every_same f g zero h = refl
every_same f g (suc n) h = rw (every_same f g n (λ k l. h k (omega arith)), h n (omega arith))

pub over_range : (test : ℕ → Bool) (n : ℕ) → list_all test (range_with_len 0 n) ≡ every n test
over_range test n =
    over_list test (range_with_len 0 n)
    ∙ rw length-range_with_len
    (every_same _ test n
    (λ k l.
    let here : get_or (range_with_len 0 n) k 0 ≡ k =
    omega (arith, get_or-range_with_len 0 n k 0 l) in
    ap test here))
