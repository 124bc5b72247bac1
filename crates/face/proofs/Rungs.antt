-- An order of tests answers by a table, where each test says its fact.
use Prim.Native.Nat.{ℕ, ◌<◌, ◌≤◌}
use mathlib.Core.Path.{◌≡◌, refl, sym, ap, subst, ◌∙◌}
use mathlib.Core.Logic.{◌↔◌, ◌⊎◌, ◌≢◌, ⊎_elim, inl, inr}
use mathlib.Core.Bool.{Bool, true, false, ◌&&◌, ◌||◌}
use native.Mathlib.Omega.{arith}
use lib.Dec.{leb, ltb, eqb}
use Rattle.basis.specs.Order.{Answer, refused, accepted, Order, check, give, answer}
use Rattle.basis.proofs.Ladder.{not_so}
use Rattle.basis.proofs.Order.{passes, fails, gives, given, apart}
use Rattle.basis.proofs.Tests.{never, says_le, says_lt, says_eq, says_two}
use Rattle.face.specs.Table.{Table, ◌when◌or◌, done, Gives, Answers}

-- Where a test fails, from what it says.
pub else_fact : {P : Type 0} (t : Bool) → (t ≡ true) ↔ P → (t ≡ false) ↔ (P → ⊥)
else_fact t p = (λ e x. never (p.1 x) e, λ nay. not_so t p nay)

pub else_le : (a b : ℕ) → (leb a b ≡ false) ↔ (b < a)
else_le a b =
    let e = else_fact (leb a b) (says_le a b) in
    (λ q. omega (arith, e.0 q), λ h. e.1 (λ k. omega (arith, h, k)))

pub else_lt : (a b : ℕ) → (ltb a b ≡ false) ↔ (b ≤ a)
else_lt a b =
    let e = else_fact (ltb a b) (says_lt a b) in
    (λ q. omega (arith, e.0 q), λ h. e.1 (λ k. omega (arith, h, k)))

pub else_eq : (a b : ℕ) → (eqb a b ≡ false) ↔ (a ≢ b)
else_eq a b = else_fact (eqb a b) (says_eq a b)

pub else_or : (t u : Bool) → ((t || u) ≡ false) ↔ ((t ≡ false) × (u ≡ false))
else_or true u = (λ e. never refl e, λ h. never refl h.0)
else_or false u = (λ e. (refl, e), λ h. h.1)

-- Three tests of one number are one.
pub joined : {A : Type 0} (t u v : Bool) (n : ℕ) (rest : Order A)
    → answer (check t n (check u n (check v n rest))) ≡ answer (check (t && (u && v)) n rest)
unfolding answer
joined true true v n rest = refl
joined true false v n rest = refl
joined false u v n rest = refl

-- The number of an answer, where an accepted one has a number of its own.
abbrev pub told : {A : Type 0} → (A → ℕ) → Answer A → ℕ
told number_of_lem (refused n) = n
told number_of_lem (accepted a) = number_of_lem a

-- An order answers by a table; its refusals are `least` to 14, and what it accepts is right.
pub record By {A : Type 0} (least : ℕ) (number_of_lem : A → ℕ) (Right : A → Type 0) (order : Order A)
    (table : Table) : Type 0 where
  pub exactly : (n : ℕ) → (told number_of_lem (answer order) ≡ n) ↔ Gives table n
  pub refusals : (n : ℕ) → answer order ≡ refused n → (least ≤ n) × (n ≤ 14)
  pub accepts : (a : A) → answer order ≡ accepted a → Right a

module _ {A : Type 0} {least : ℕ} {number_of_lem : A → ℕ} {Right : A → Type 0} where
  -- An order of the same answer.
  pub like : {order other : Order A} {table : Table} → answer order ≡ answer other
      → By least number_of_lem Right other table → By least number_of_lem Right order table
  like {order} e b =
      record {
        exactly = λ n. rw e (b.exactly n);
        refusals = λ n q. b.refusals n (sym e ∙ q);
        accepts = λ a q. b.accepts a (sym e ∙ q);
      }

  -- A test that says its fact, with a number from `least` to 14.
  pub rung : {t : Bool} {Q : Type 0} {m : ℕ} {rest : Order A} {table : Table}
      → (leb least m && leb m 14) ≡ true → (t ≡ false) ↔ Q
      → (t ≡ true → By least number_of_lem Right rest table)
      → By least number_of_lem Right (check t m rest) (m when Q or table)
  rung {t} {Q} {m} {rest} {table} told-by q then = go t refl
    where
      go : (u : Bool) → t ≡ u → By least number_of_lem Right (check t m rest) (m when Q or table)
      go true e =
          let b = then e in
          let on = passes m rest e in
          let nay : Q → ⊥ = λ x. never e (q.1 x) in
          record {
            exactly = λ n. (
              λ k. inr (nay, (b.exactly n).0 (ap (told number_of_lem) (sym on) ∙ k)),
              ⊎_elim (λ h. absurd (nay h.0))
                  (λ h. ap (told number_of_lem) on ∙ (b.exactly n).1 h.1),
            );
            refusals = λ n k. b.refusals n (sym on ∙ k);
            accepts = λ a k. b.accepts a (sym on ∙ k);
          }
      go false e =
          let off = fails m rest e in
          record {
            exactly = λ n. (
              λ k. inl (q.0 e, sym k ∙ ap (told number_of_lem) off),
              ⊎_elim (λ h. ap (told number_of_lem) off ∙ sym h.1) (λ h. absurd (h.0 (q.0 e))),
            );
            refusals = λ n k.
                let same : m ≡ n = cc in
                subst (λ x. (least ≤ x) × (x ≤ 14)) same
                ((says_two (says_le least m) (says_le m 14)).0 told-by);
            accepts = λ a k. apart (sym off ∙ k);
          }

  -- A test that is known to pass.
  pub passed : {t : Bool} {m : ℕ} {rest : Order A} {table : Table} → t ≡ true
      → By least number_of_lem Right rest table → By least number_of_lem Right (check t m rest) table
  passed e = like (passes _ _ e)

  -- A fact that doesn't hold gives no number.
  pub absent : {Q : Type 0} {m : ℕ} {order : Order A} {table : Table} → (Q → ⊥)
      → By least number_of_lem Right order table → By least number_of_lem Right order (m when Q or table)
  absent nay b =
      record {
        exactly = λ n. (
          λ k. inr (nay, (b.exactly n).0 k),
          ⊎_elim (λ h. absurd (nay h.0)) (λ h. (b.exactly n).1 h.1),
        );
        refusals = b.refusals;
        accepts = b.accepts;
      }

  -- An accepted answer with a number of its own, where a fact holds.
  pub present : {Q : Type 0} {a : A} {m : ℕ} {table : Table} → number_of_lem a ≡ m → Right a → Q
      → By least number_of_lem Right (give a) (m when Q or table)
  present {a = a} e right q =
      record {
        exactly = λ n. (
          λ k. inl (q, sym k ∙ ap (told number_of_lem) (gives a) ∙ e),
          ⊎_elim (λ h. ap (told number_of_lem) (gives a) ∙ e ∙ sym h.1)
              (λ h. absurd (h.0 q)),
        );
        refusals = λ n k. apart (sym k ∙ gives a);
        accepts = λ b k. subst Right (given a k) right;
      }

  -- The end.
  pub end : {a : A} {k : ℕ} → number_of_lem a ≡ k → Right a
      → By least number_of_lem Right (give a) (done k)
  end {a} {k} e right =
      record {
        exactly = λ n. (
          λ q. sym q ∙ ap (told number_of_lem) (gives a) ∙ e,
          λ q. ap (told number_of_lem) (gives a) ∙ e ∙ sym q,
        );
        refusals = λ n q. apart (sym q ∙ gives a);
        accepts = λ b q. subst Right (given a q) right;
      }

-- What a function leaves, from what its order answers.
pub answers_by : {A O : Type 0} {least : ℕ} {Right : A → Type 0} {table : Table}
    (number : O → ℕ) (number_of_lem : A → ℕ) (shape : Answer A → O) (before : ℕ → O) (after : O)
    → ((a : Answer A) → number (shape a) ≡ told number_of_lem a)
    → ((n : ℕ) → shape (refused n) ≡ before n)
    → ((a : A) → Right a → (shape (accepted a) ≡ after)
    ⊎ ((least ≤ number_of_lem a) × (number_of_lem a ≤ 14) × (shape (accepted a) ≡ before (number_of_lem a))))
    → (order : Order A) (out : O) → out ≡ shape (answer order)
    → By least number_of_lem Right order table
    → Answers least table (number out) out (before (number out)) after
answers_by {A} {least = least} number number_of_lem shape before after numbered keeps right order out
    says b =
    let same : number out ≡ told number_of_lem (answer order) =
    ap number says ∙ numbered (answer order) in
    record {
      exactly = λ n. (λ q. (b.exactly n).0 (sym same ∙ q), λ g. same ∙ (b.exactly n).1 g);
      leaves = rw (same, says) (go (answer order) refl);
    }
  where
    go : (a : Answer A) → answer order ≡ a → (shape a ≡ after)
        ⊎ ((least ≤ told number_of_lem a) × (told number_of_lem a ≤ 14)
        × (shape a ≡ before (told number_of_lem a)))
    go (refused n) e = let h = b.refusals n e in inr (h.0, h.1, keeps n)
    go (accepted a) e = right a (b.accepts a e)
