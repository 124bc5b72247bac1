-- The ways through `wuthracomb_load_step`, and its numbers.
use Prim.Native.Nat.{ℕ}
use mathlib.Core.Path.{◌≡◌, refl, ap, ◌∙◌}
use mathlib.Core.Logic.{◌≢◌, inl, inr, ⊎_elim}
use mathlib.Core.Bool.{Bool, true, false}
use mathlib.Core.List.{List, [], ◌∷◌}
use native.Mathlib.Omega.{arith}
use lib.Dec.{eqb}
use lib.IntN.{ℤ}
use lib.ListN.{length}
use borrow.Author.Tests.{eq-eqb, ne_eqb, eqb-true, eqb-false}
use Rattle.basis.specs.Filled.{Filled}
use Rattle.basis.specs.Numbers.{LOAD}
use Rattle.basis.specs.Order.{Answer, answer, refused, accepted}
use Rattle.basis.proofs.Order.{passes, fails, gives, stops, goes_on}
use Rattle.load.specs.Facts.{OutOfRange}
use Rattle.load.specs.Step.{moved, step_order}
use Rattle.load.specs.declared.Load.{Load}
use Rattle.load.proofs.Numbers.{outcome, is_refused, is_moved}
use Rattle.station.specs.Face.{load_of, load_step_face}
use Rattle.station.specs.Left.{fills}
use Rattle.station.specs.Says.{LoadStepSays}
use Rattle.station.specs.Statements.{LoadStepNumbers}

module _ (stiffness : ℕ) (words : List ℤ) (two : length words ≡ 2) where
  pub load_refused : {number : ℕ} → answer (step_order stiffness (load_of words)) ≡ refused number
      → answer (load_step_face stiffness words) ≡ refused number
  unfolding load_step_face
  load_refused e = passes _ _ (eq-eqb _ _ two) ∙ stops _ _ e

  pub load_moved : {after : Load} → answer (step_order stiffness (load_of words)) ≡ accepted after
      → answer (load_step_face stiffness words) ≡ accepted (after.x ∷ after.v ∷ [])
  unfolding load_step_face
  load_moved e = passes _ _ (eq-eqb _ _ two) ∙ goes_on _ _ e ∙ gives _

-- What comes out, by what the face answers.
module _ (p : ℕ) (words : List ℤ) (out : Filled ℕ ℤ) (says : LoadStepSays p words out) where
  abbrev Beyond : Type 0
  Beyond = OutOfRange p (load_of words) (moved p (load_of words))

  told : {a : Answer (List ℤ)} → answer (load_step_face p words) ≡ a → out ≡ fills words a
  told e = says ∙ ap (fills words) e

  no_room : length words ≢ 2 → LoadStepNumbers p words out
  unfolding load_step_face
  no_room h =
      let is = told (fails _ _ (ne_eqb _ _ h)) in
      let e : out.answer ≡ 10 = ap (λ (o : Filled ℕ ℤ). o.answer) is in
      record {
        room = (λ q. h, λ q. e);
        load = (λ q. absurd (omega (arith, e, q)), λ q. absurd (h q.0));
        done = (λ q. absurd (omega (arith, e, q)), λ q. absurd (h q.0));
        moved = λ q. absurd (omega (arith, e, q));
        kept = inr (inl e, ap (λ (o : Filled ℕ ℤ). o.out) is);
      }

  module _ (two : length words ≡ 2) where
    no_load : answer (step_order p (load_of words)) ≡ refused LOAD → LoadStepNumbers p words out
    no_load r =
        let is = told (load_refused p words two r) in
        let e : out.answer ≡ 17 = ap (λ (o : Filled ℕ ℤ). o.answer) is in
        let b : Beyond = (is_refused (load_of words) p).0 r in
        record {
          room = (λ q. absurd (omega (arith, e, q)), λ h. absurd (h two));
          load = (λ q. (two, b), λ q. e);
          done = (λ q. absurd (omega (arith, e, q)), λ q. absurd (q.1 b));
          moved = λ q. absurd (omega (arith, e, q));
          kept = inr (inr e, ap (λ (o : Filled ℕ ℤ). o.out) is);
        }

    moves_on : answer (step_order p (load_of words)) ≡ accepted (moved p (load_of words))
        → LoadStepNumbers p words out
    moves_on r =
        let is = told (load_moved p words two r) in
        let e : out.answer ≡ 255 = ap (λ (o : Filled ℕ ℤ). o.answer) is in
        let nay : Beyond → ⊥ = ((is_moved (load_of words) p (moved p (load_of words))).0 r).0 in
        record {
          room = (λ q. absurd (omega (arith, e, q)), λ h. absurd (h two));
          load = (λ q. absurd (omega (arith, e, q)), λ q. absurd (nay q.1));
          done = (λ q. (two, nay), λ q. e);
          moved = λ q. ap (λ (o : Filled ℕ ℤ). o.out) is;
          kept = inl e;
        }

  pub load_numbers : LoadStepNumbers p words out
  load_numbers = go (eqb (length words) 2) refl
    where
      go : (t : Bool) → eqb (length words) 2 ≡ t → LoadStepNumbers p words out
      go false e = no_room (eqb-false _ _ e)
      go true e =
          let two = eqb-true _ _ e in
          ⊎_elim (no_load two) (moves_on two) (outcome (load_of words) p)
