-- Outcomes of the calls, and the answers of their orders: each says the other.
use Prim.Native.Nat.{ℕ}
use mathlib.Core.Path.{◌≡◌, sym, ap, ◌∙◌}
use mathlib.Core.Logic.{◌↔◌}
use mathlib.Core.List.{List}
use native.Mathlib.Omega.{arith}
use lib.IntN.{ℤ}
use Rattle.std.specs.Prelude.{Result, Ok, Err}
use Rattle.basis.specs.Filled.{Filled, filled}
use Rattle.basis.specs.Numbers.{TAKEN, HELD}
use Rattle.basis.specs.Order.{Answer, refused, accepted}
use Rattle.basis.specs.Refusal.{answer_of}
use Rattle.basis.specs.declared.Refusal.{Refusal}
use Rattle.basis.proofs.Order.{apart}
use Rattle.basis.proofs.Refusals.{one_refusal, one_answer}
use Rattle.session.specs.declared.Session.{Session}
use Rattle.session.specs.declared.Delivered.{Delivered}
use Rattle.session.specs.declared.Delivered.TheVariants as delivered
use Rattle.session.specs.Lent.{Lent, Made, tells, leaves}
use Rattle.session.specs.Calls.{taken, already_held}
use Rattle.session.specs.Answers.{delivered_of, replay_leaves}

same_number : {A : Type 0} {m n : ℕ} → ◌≡◌ {A = Answer A} (refused m) (refused n) → m ≡ n
same_number e = cc

given : {A : Type 0} {a b : A} → ◌≡◌ {A = Answer A} (accepted a) (accepted b) → a ≡ b
given e = cc

-- TAKEN is not HELD.
numbers_differ : {A : Type 0} {s t : Session} → taken s ≡ already_held t → A
numbers_differ e =
    let wrong : TAKEN ≡ HELD = ap (λ d. d.number) e in
    absurd (omega (arith, wrong))

-- No two answers to a delivery stand for one answer.
pub delivered_one : (a b : Result Delivered Refusal) → delivered_of a ≡ delivered_of b → a ≡ b
delivered_one (Ok (delivered.Taken s)) (Ok (delivered.Taken t)) e =
    ap (λ s. Ok (delivered.Taken s)) (ap (λ d. d.session) (given e))
delivered_one (Ok (delivered.Taken s)) (Ok (delivered.Held t)) e = numbers_differ (given e)
delivered_one (Ok (delivered.Held s)) (Ok (delivered.Taken t)) e = numbers_differ (sym (given e))
delivered_one (Ok (delivered.Held s)) (Ok (delivered.Held t)) e =
    ap (λ s. Ok (delivered.Held s)) (ap (λ d. d.session) (given e))
delivered_one (Ok (delivered.Taken s)) (Err r) e = apart (sym e)
delivered_one (Ok (delivered.Held s)) (Err r) e = apart (sym e)
delivered_one (Err r) (Ok (delivered.Taken t)) e = apart e
delivered_one (Err r) (Ok (delivered.Held t)) e = apart e
delivered_one (Err r) (Err s) e = ap Err (one_refusal r s (same_number e))

-- Nor do two outcomes, with what they leave.
pub tells_one : {A C : Type 0} {tell : C → A} → ((a b : C) → tell a ≡ tell b → a ≡ b)
    → (m n : Made C) → tells tell m ≡ tells tell n → m ≡ n
tells_one one m n e =
    same (one m.result n.result (ap (λ x. x.result) e)) (ap (λ x. x.state) e)
    (ap (λ x. x.rows) e) (ap (λ x. x.log) e)
  where
    same : m.result ≡ n.result → m.state ≡ n.state → m.rows ≡ n.rows → m.log ≡ n.log
        → m ≡ n
    same p q r s = rw (p, q, r, s)

-- What an order leaves says what it answers.
leaves_one : {A : Type 0} (l : Lent) (x y : Answer (Made A)) → leaves l x ≡ leaves l y → x ≡ y
leaves_one l (refused m) (refused n) e = ap refused (same_number (ap (λ x. x.result) e))
leaves_one l (refused m) (accepted n) e = apart (ap (λ x. x.result) e)
leaves_one l (accepted m) (refused n) e = apart (sym (ap (λ x. x.result) e))
leaves_one l (accepted m) (accepted n) e =
    ap accepted (tells_one {tell = accepted} (λ a b. given) m n e)

-- An outcome of a contract, by what the order answers.
pub outcome_iff : {A C : Type 0} {tell : C → Answer A} → ((a b : C) → tell a ≡ tell b → a ≡ b)
    → (l : Lent) (a : Answer (Made A)) (out : Made C) → tells tell out ≡ leaves l a
    → (this : Made C) (b : Answer (Made A)) → tells tell this ≡ leaves l b
    → (out ≡ this) ↔ (a ≡ b)
outcome_iff {tell = tell} one l a out says this b told = (
  λ e. leaves_one l a b (sym says ∙ ap (tells tell) e ∙ told),
  λ e. tells_one one out this (says ∙ ap (leaves l) e ∙ sym told),
)

-- Of a call that leaves nothing, an outcome by what the order answers.
pub answer_iff : {A : Type 0} {a : Answer A} {out : Result A Refusal} → answer_of out ≡ a
    → (this : Result A Refusal) → (out ≡ this) ↔ (a ≡ answer_of this)
answer_iff {out = out} says this = (
  λ e. sym says ∙ ap answer_of e,
  λ e. one_answer out this (says ∙ e),
)

-- So of replay, which leaves a state alone.
abbrev pub told : Filled (Result (Unit {0}) Refusal) ℤ → Filled (Answer (Unit {0})) ℤ
told out = filled (answer_of out.answer) out.out

pub told_one : (x y : Filled (Result (Unit {0}) Refusal) ℤ) → told x ≡ told y → x ≡ y
told_one x y e =
    same (one_answer x.answer y.answer (ap (λ f. f.answer) e)) (ap (λ f. f.out) e)
  where
    same : x.answer ≡ y.answer → x.out ≡ y.out → x ≡ y
    same p q = rw (p, q)

replay_one : (state : List ℤ) (x y : Answer (List ℤ))
    → replay_leaves state x ≡ replay_leaves state y → x ≡ y
replay_one state (refused m) (refused n) e = ap refused (same_number (ap (λ f. f.answer) e))
replay_one state (refused m) (accepted s) e = apart (ap (λ f. f.answer) e)
replay_one state (accepted s) (refused n) e = apart (sym (ap (λ f. f.answer) e))
replay_one state (accepted s) (accepted t) e = ap accepted (ap (λ f. f.out) e)

pub replay_iff : (state : List ℤ) (a : Answer (List ℤ))
    (out : Filled (Result (Unit {0}) Refusal) ℤ) → told out ≡ replay_leaves state a
    → (this : Filled (Result (Unit {0}) Refusal) ℤ) (b : Answer (List ℤ))
    → told this ≡ replay_leaves state b
    → (out ≡ this) ↔ (a ≡ b)
replay_iff state a out says this b alike = (
  λ e. replay_one state a b (sym says ∙ ap told e ∙ alike),
  λ e. told_one out this (says ∙ ap (replay_leaves state) e ∙ sym alike),
)
