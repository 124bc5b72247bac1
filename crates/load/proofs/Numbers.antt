-- A step's answers, exactly when, from the facts that its tests say.
use Prim.Native.Nat.{ℕ, ◌≤◌, ◌<◌}
use mathlib.Core.Path.{◌≡◌, refl, sym, ap, ◌∙◌}
use mathlib.Core.Logic.Iff
use mathlib.Core.Logic.{◌↔◌, ◌⊎◌, inl, inr, ⊎_elim}
use mathlib.Core.Bool.{Bool, true, false}
use native.Mathlib.Omega.{arith}
use borrow.Author.Tests.{leb-true, leb-false}
use lib.Dec.{leb}
use Rattle.std.specs.Prelude.{Result, Ok, Err}
use lib.IntN.{nat_abs}
use Rattle.basis.specs.Numbers.{LOAD}
use Rattle.basis.specs.Order.{Answer, refused, accepted, Order, check, give, answer}
use Rattle.basis.specs.Refusal.{answer_of}
use Rattle.basis.specs.declared.Refusal.{Refusal}
use Rattle.basis.specs.declared.Refusal.TheVariants as why
use Rattle.basis.proofs.Order.{apart}
use Rattle.basis.proofs.Refusals.{one_answer}
use Rattle.basis.proofs.Ladder.{here_iff, run_iff, pass_iff, give_iff, lacks_give, not_le}
use Rattle.load.specs.Facts.{OutOfRange}
use Rattle.load.specs.Step.{is_stiffness, in_range, moved, step_order}
use Rattle.load.specs.Says.{StepSays}
use Rattle.load.specs.Statements.{StepNumbers}
use Rattle.load.specs.declared.Load.{Load}
use Rattle.load.proofs.Steps.{InRange, says_stiffness, says_range}

same_number : {n m : ℕ} → ◌≡◌ {A = Answer Load} (refused n) (refused m) → n ≡ m
same_number e = cc

-- Not all of some comparisons hold: one of them fails.
some_above : (a b : ℕ) {Q M : Type 0} → (Q → ⊥) ↔ M → ((a ≤ b) × Q → ⊥) ↔ ((b < a) ⊎ M)
some_above a b {Q} {M} q = (
  go (leb a b) refl,
  ⊎_elim (λ h w. omega (arith, h, w.0)) (λ m w. q.1 m w.1),
)
  where
    go : (t : Bool) → leb a b ≡ t → ((a ≤ b) × Q → ⊥) → (b < a) ⊎ M
    go true e nay = inr (q.0 (λ y. nay (leb-true a b e, y)))
    go false e nay = inl (leb-false a b e)

-- Tests of one number: it comes back, or what is given.
two_ways : (s t u : Bool) (a : Load) (n : ℕ)
    → let order : Order Load = check s n (check t n (check u n (give a))) in
    (answer order ≡ refused n) ⊎ (answer order ≡ accepted a)
unfolding answer
two_ways true true true a n = inr refl
two_ways true true false a n = inl refl
two_ways true false u a n = inl refl
two_ways false t u a n = inl refl

module _ (load : Load) (p : ℕ) where
  abbrev Stiffness : Type 0
  Stiffness = (1 ≤ p) × (p ≤ 1024)

  refused_iff : (answer (step_order p load) ≡ refused LOAD)
      ↔ (Stiffness × (InRange load × InRange (moved p load)) → ⊥)
  unfolding step_order
  refused_iff =
      run_iff (says_stiffness p) LOAD _
      (run_iff (says_range load) LOAD _
      (here_iff (says_range (moved p load)) LOAD _ (lacks_give _)))

  moved_iff : (after : Load) → (answer (step_order p load) ≡ accepted after)
      ↔ (Stiffness × (InRange load × (InRange (moved p load) × (moved p load ≡ after))))
  unfolding step_order
  moved_iff after =
      pass_iff (says_stiffness p) LOAD _
      (pass_iff (says_range load) LOAD _
      (pass_iff (says_range (moved p load)) LOAD _ (give_iff _)))

  pub beyond : (Stiffness × (InRange load × InRange (moved p load)) → ⊥)
      ↔ OutOfRange p load (moved p load)
  beyond =
      let all = some_above 1 p
      (some_above p 1024
      (some_above (nat_abs load.x) 32767
      (some_above (nat_abs load.v) 32767
      (some_above (nat_abs (moved p load).x) 32767
      (not_le (nat_abs (moved p load).v) 32767))))) in (
        λ nay. all.0 (λ (a, (b, (c, (d, (e, f))))). nay ((a, b), ((c, d), (e, f)))),
        λ some ((a, b), ((c, d), (e, f))). all.1 some (a, (b, (c, (d, (e, f))))),
      )

  -- 17 exactly when, and a step made exactly when, of the answer.
  pub is_refused : (answer (step_order p load) ≡ refused LOAD) ↔ OutOfRange p load (moved p load)
  is_refused = Iff.trans refused_iff beyond

  pub outcome : (answer (step_order p load) ≡ refused LOAD)
      ⊎ (answer (step_order p load) ≡ accepted (moved p load))
  unfolding step_order
  outcome = two_ways (is_stiffness p) (in_range load) (in_range (moved p load)) (moved p load) LOAD

  pub is_moved : (after : Load) → (answer (step_order p load) ≡ accepted after)
      ↔ ((OutOfRange p load (moved p load) → ⊥) × (after ≡ moved p load))
  is_moved after = (
    λ e.
        let (s, (i, (k, same))) = (moved_iff after).0 e in
        (λ out. beyond.1 out (s, (i, k)), sym same),
    λ (nay, same).
        ⊎_elim (λ e. absurd (nay (is_refused.0 e))) (λ e. e ∙ ap accepted (sym same)) outcome,
  )

  module _ (out : Result Load Refusal) (says : StepSays load p out) where
    tells : (o : Result Load Refusal) → (out ≡ o) ↔ (answer (step_order p load) ≡ answer_of o)
    tells o = (λ e. sym says ∙ ap answer_of e, λ e. one_answer out o (says ∙ e))

    pub step_numbers : StepNumbers load p out
    step_numbers =
        record {
          refused = Iff.trans (tells (Err why.Load)) is_refused;
          moved = λ after. Iff.trans (tells (Ok after)) (is_moved after);
          only = λ refusal e.
              let told = (tells (Err refusal)).0 e in
              ⊎_elim (λ q. same_number (sym told ∙ q)) (λ q. apart (sym told ∙ q)) outcome;
        }
