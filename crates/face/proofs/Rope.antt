-- `wuthracomb_rope_step`, number by number.
use Prim.Native.Nat.{ℕ, ◌*◌, ◌<◌}
use mathlib.Core.Path.{◌≡◌, refl, sym, ap, subst, ◌∙◌}
use mathlib.Core.Logic.Iff
use mathlib.Core.Logic.{◌↔◌, ◌⊎◌, ◌≢◌, inl, inr, ⊎_elim}
use mathlib.Core.Bool.{Bool, true, false}
use mathlib.Core.List.Memᴰ
use mathlib.Core.List.{List, [], ◌∷◌, Memᴰ}
use native.Mathlib.Omega.{arith}
use borrow.Author.Tests.{eqb-false, ne_eqb, leb-false, lt-leb}
use lib.Dec.{eqb}
use lib.Ieee.{Float}
use lib.ListN.{length, take}
use Rattle.basis.specs.Filled.{Filled, filled}
use Rattle.basis.specs.Numbers.{ROPE}
use Rattle.basis.specs.Order.{Answer, refused, accepted, Order, check, give, answer, and_then}
use Rattle.basis.specs.Order.{is_accepted}
use Rattle.basis.proofs.Order.{passes, fails, gives, stops, goes_on}
use Rattle.basis.proofs.Tests.{never}
use Rattle.rope.specs.Step.{rope_order, moved_under}
use Rattle.rope.specs.Facts.{Rule18}
use Rattle.rope.specs.declared.Point.{Point}
use Rattle.rope.proofs.Rule18.{both_fail, refused_when, settled}
use Rattle.station.specs.Left.{fills}
use Rattle.station.specs.Ropes.{kinds_hold, point_of, forces_of, rope_face}
use Rattle.station.specs.Says.{RopeStepSays}
use Rattle.station.proofs.Ropes.{all_forces}
use Rattle.face.specs.Table.{Table, ◌when◌or◌, done, Gives}
use Rattle.face.specs.Rope.{rope_numbers, point_after, RopeStep, RopeEnds}

-- The number of an answer.
abbrev told : {A : Type 0} → Answer A → ℕ
told (refused n) = n
told (accepted a) = 255

-- An order answers by a table, and ends in this or in a number other than 255.
record By {A : Type 0} (order : Order A) (table : Table) (after : A) : Type 0 where
  exactly : (n : ℕ) → (told (answer order) ≡ n) ↔ Gives table n
  ends : (answer order ≡ accepted after) ⊎ ((n : ℕ) × (n ≢ 255) × (answer order ≡ refused n))

module _ {A : Type 0} {after : A} where
  -- A test that says its fact.
  rung : (t : Bool) {Q : Type 0} (m : ℕ) (rest : Order A) {table : Table} → m ≢ 255
      → (t ≡ false) ↔ Q → By rest table after → By (check t m rest) (m when Q or table) after
  rung true m rest other q b =
      let on = passes m rest refl in
      record {
        exactly = λ n. (
          λ k. inr (λ h. never refl (q.1 h), (b.exactly n).0 (ap told (sym on) ∙ k)),
          ⊎_elim (λ h. never refl (q.1 h.0)) (λ h. ap told on ∙ (b.exactly n).1 h.1),
        );
        ends = ⊎_elim (λ e. inl (on ∙ e)) (λ h. inr (h.0, h.1, on ∙ h.2)) b.ends;
      }
  rung false m rest other q b =
      let off = fails m rest refl in
      record {
        exactly = λ n. (
          λ k. inl (q.0 refl, sym k ∙ ap told off),
          ⊎_elim (λ h. ap told off ∙ sym h.1) (λ h. absurd (h.0 (q.0 refl))),
        );
        ends = inr (m, other, off);
      }

  end : By (give after) (done 255) after
  end =
      record {
        exactly = λ n. (λ q. sym q ∙ ap told (gives after), λ q. ap told (gives after) ∙ sym q);
        ends = inl (gives after);
      }

  -- An order of the same answer.
  like : (order other : Order A) {table : Table} → answer order ≡ answer other
      → By other table after → By order table after
  like order other e b =
      record {
        exactly = λ n. rw e (b.exactly n);
        ends = ⊎_elim (λ q. inl (e ∙ q)) (λ h. inr (h.0, h.1, e ∙ h.2)) b.ends;
      }

wrong_length : (a b : ℕ) → (eqb a b ≡ false) ↔ (a ≢ b)
wrong_length a b = (eqb-false a b, ne_eqb a b)

abbrev OneUnknown : List ℕ → Type 0
OneUnknown kinds = (kind : ℕ) × Memᴰ kind kinds × (2 < kind)

unknown : (kinds : List ℕ) → (kinds_hold kinds ≡ false) ↔ OneUnknown kinds
unfolding kinds_hold
unknown [] = (never refl, λ h. absurd (Memᴰ.not-nil h.1))
unknown (kind ∷ kinds) =
    Iff.trans (both_fail _ (kinds_hold kinds) (leb-false kind 2, lt-leb kind 2) (unknown kinds)) (
      ⊎_elim (λ h. (kind, Memᴰ.head refl, h)) (λ h. (h.0, Memᴰ.tail h.1, h.2)),
      λ h. ⊎_elim (λ e. inl (subst (λ n. 2 < n) e h.2)) (λ m. inr (h.0, m, h.2))
          (Memᴰ.cases_cons h.1),
    )

module _ (kinds : List ℕ) (numbers point : List Float) where
  abbrev step : Order Point
  step = rope_order (point_of point) (forces_of kinds numbers) (length kinds)

  abbrev next : Point → Order (List Float)
  next p = give (p.place ∷ p.speed ∷ [])

  moved_is : moved_under (point_of point) (take (length kinds) (forces_of kinds numbers))
      ≡ moved_under (point_of point) (forces_of kinds numbers)
  moved_is = ap (moved_under (point_of point)) (all_forces kinds numbers)

  -- The step is one test, whether it is accepted, and gives the point moved.
  one_test : answer (and_then step next)
      ≡ answer (check (is_accepted (answer step)) ROPE (give (point_after kinds numbers point)))
  one_test =
      ⊎_elim
      (λ e. stops step next e ∙ sym (fails ROPE _ (ap is_accepted e)))
      (λ e.
      goes_on step next e ∙ ap (λ p. answer (next p)) moved_is
      ∙ sym (passes ROPE _ (ap is_accepted e)))
      (settled (point_of point) (forces_of kinds numbers) (length kinds))

  fails_when : (is_accepted (answer step) ≡ false)
      ↔ Rule18 (point_of point) (forces_of kinds numbers) (length kinds)
  fails_when =
      Iff.trans (back, λ e. ap is_accepted e)
      (refused_when (point_of point) (forces_of kinds numbers) (length kinds))
    where
      back : is_accepted (answer step) ≡ false → answer step ≡ refused ROPE
      back f =
          ⊎_elim (λ e. e) (λ e. never (ap is_accepted e) f)
          (settled (point_of point) (forces_of kinds numbers) (length kinds))

  by_table : By (rope_face kinds numbers point) (rope_numbers kinds numbers point)
      (point_after kinds numbers point)
  unfolding rope_face
  by_table =
      rung _ 10 _ (λ e. omega arith) (wrong_length (length numbers) (2 * length kinds))
      (rung _ 10 _ (λ e. omega arith) (wrong_length (length point) 2)
      (rung _ 18 _ (λ e. omega arith) (unknown kinds)
      (like _ _ one_test (rung _ 18 _ (λ e. omega arith) fails_when end))))

  numbered : (a : Answer (List Float)) → (fills point a).answer ≡ told a
  numbered (refused n) = refl
  numbered (accepted x) = refl

  pub rope_step : (out : Filled ℕ Float) → RopeStepSays kinds numbers point out
      → RopeStep kinds numbers point out
  rope_step out says =
      let order = rope_face kinds numbers point in
      let same : out.answer ≡ told (answer order) =
      ap (λ (o : Filled ℕ Float). o.answer) says ∙ numbered (answer order) in
      record {
        exactly = λ n. (
          λ q. (by_table.exactly n).0 (sym same ∙ q),
          λ g. same ∙ (by_table.exactly n).1 g,
        );
        leaves =
            ⊎_elim (λ e. inl (says ∙ ap (fills point) e))
            (λ h.
            let is : out.answer ≡ h.0 = same ∙ ap told h.2 in
            inr (
              λ q. h.1 (sym is ∙ q),
              says ∙ ap (fills point) h.2 ∙ ap (λ n. filled n point) (sym is),
            ))
            by_table.ends;
      }

pub rope_ends : RopeEnds
rope_ends = record { step = rope_step }
