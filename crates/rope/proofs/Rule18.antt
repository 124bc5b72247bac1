-- Exactly when a step is refused: the tests of its order, and the plain facts that refuse it.
use Prim.Native.Nat.{ℕ, ◌<◌}
use mathlib.Core.Path.{◌≡◌, refl, sym, ap, subst, ◌∙◌}
use mathlib.Core.Logic.Iff
use mathlib.Core.Logic.{◌↔◌, ◌⊎◌, inl, inr, ⊎_elim}
use mathlib.Core.Bool.{Bool, true, false, ◌&&◌}
use mathlib.Core.List.Memᴰ
use mathlib.Core.List.{List, [], ◌∷◌, Memᴰ}
use lib.Dec.{leb}
use lib.ListN.{take}
use borrow.Author.Tests.{lt-leb, leb-false}
use lib.Ieee.{Float, nan, inf, fin}
use Rattle.std.specs.Float.{float_is_finite}
use Rattle.basis.specs.Numbers.{ROPE}
use Rattle.basis.specs.Order.{refused, accepted, Order, check, give, answer}
use Rattle.basis.proofs.Order.{passes, fails, gives, apart}
use Rattle.basis.proofs.Tests.{never}
use Rattle.rope.specs.declared.Point.{Point}
use Rattle.rope.specs.declared.Force.{Force}
use Rattle.rope.specs.declared.Force.TheVariants.{Pull, Spring, Drag}
use Rattle.rope.specs.Forces.{finite_force, finite_forces}
use Rattle.rope.specs.Step.{most_forces, finite_point, moved_under, rope_order}
use Rattle.rope.specs.Facts.{NotFinite, PointNotFinite, ForceNotFinite, Rule18}

-- One of two tests fails.
pub both_fail : {P Q : Type 0} (s t : Bool) → (s ≡ false) ↔ P → (t ≡ false) ↔ Q
    → ((s && t) ≡ false) ↔ (P ⊎ Q)
both_fail true t p q = (λ e. inr (q.0 e), ⊎_elim (λ h. never refl (p.1 h)) q.1)
both_fail false t p q = (λ e. inl (p.0 refl), λ h. refl)

pub not_finite : (x : Float) → (float_is_finite x ≡ false) ↔ NotFinite x
unfolding float_is_finite
not_finite nan = (λ e. inl refl, λ h. refl)
not_finite (inf false) = (λ e. inr (inl refl), λ h. refl)
not_finite (inf true) = (λ e. inr (inr refl), λ h. refl)
not_finite (fin s m e) = (
  never refl,
  ⊎_elim (ap float_is_finite)
      (⊎_elim (ap float_is_finite) (ap float_is_finite)),
)

pub point_not_finite : (point : Point) → (finite_point point ≡ false) ↔ PointNotFinite point
unfolding finite_point
point_not_finite point = both_fail _ _ (not_finite point.place) (not_finite point.speed)

force_not_finite : (force : Force) → (finite_force force ≡ false) ↔ ForceNotFinite force
unfolding finite_force
force_not_finite (Pull size) = not_finite size
force_not_finite (Spring stiffness rest) = both_fail _ _ (not_finite stiffness) (not_finite rest)
force_not_finite (Drag factor) = not_finite factor

-- One of the forces.
abbrev OneNotFinite : List Force → Type 0
OneNotFinite forces = (force : Force) × Memᴰ force forces × ForceNotFinite force

forces_not_finite : (forces : List Force) → (finite_forces forces ≡ false) ↔ OneNotFinite forces
unfolding finite_forces
forces_not_finite [] = (never refl, λ h. absurd (Memᴰ.not-nil h.1))
forces_not_finite (force ∷ forces) =
    Iff.trans
    (both_fail (finite_force force) (finite_forces forces) (force_not_finite force)
    (forces_not_finite forces)) (
      ⊎_elim (λ h. (force, Memᴰ.head refl, h)) (λ h. (h.0, Memᴰ.tail h.1, h.2)),
      λ h. ⊎_elim (λ e. inl (subst ForceNotFinite e h.2)) (λ m. inr (h.0, m, h.2))
          (Memᴰ.cases_cons h.1),
    )

-- A test and the rest of an order that have one number.
module _ {A : Type 0} {P : Type 0} (t : Bool) (p : (t ≡ false) ↔ P) (n : ℕ) (rest : Order A) where
  run : {Q : Type 0} → (answer rest ≡ refused n) ↔ Q
      → (answer (check t n rest) ≡ refused n) ↔ (P ⊎ Q)
  run {Q} q = (go t refl, ⊎_elim (λ h. fails n rest (p.1 h)) (λ h. back t refl (q.1 h)))
    where
      go : (u : Bool) → t ≡ u → answer (check t n rest) ≡ refused n → P ⊎ Q
      go true e a = inr (q.0 (sym (passes n rest e) ∙ a))
      go false e a = inl (p.0 e)

      back : (u : Bool) → t ≡ u → answer rest ≡ refused n → answer (check t n rest) ≡ refused n
      back true e a = passes n rest e ∙ a
      back false e a = fails n rest e

-- The last test.
last : {A : Type 0} {P : Type 0} (t : Bool) → (t ≡ false) ↔ P → (n : ℕ) (a : A)
    → (answer (check t n (give a)) ≡ refused n) ↔ P
last {A} {P} t p n a = (go t refl, λ h. fails n (give a) (p.1 h))
  where
    go : (u : Bool) → t ≡ u → answer (check t n (give a)) ≡ refused n → P
    go true e q = apart (sym q ∙ passes n (give a) e ∙ gives a)
    go false e q = p.0 e

few : (count : ℕ) → (leb count most_forces ≡ false) ↔ (8 < count)
few count = (leb-false count 8, lt-leb count 8)

module _ (point : Point) (forces : List Force) (count : ℕ) where
  pub refused_when : (answer (rope_order point forces count) ≡ refused ROPE)
      ↔ Rule18 point forces count
  unfolding rope_order
  refused_when =
      run _ (few count) ROPE _
      (run _ (point_not_finite point) ROPE _
      (run _ (forces_not_finite (take count forces)) ROPE _
      (last _ (point_not_finite (moved_under point (take count forces))) ROPE
      (moved_under point (take count forces)))))

-- An order with one number and one end comes to the one or the other.
abbrev Settled : {A : Type 0} → Order A → ℕ → A → Type 0
Settled order n a = (answer order ≡ refused n) ⊎ (answer order ≡ accepted a)

settles : {A : Type 0} (t : Bool) (n : ℕ) (rest : Order A) (a : A) → Settled rest n a
    → Settled (check t n rest) n a
settles true n rest a h =
    let on = passes n rest refl in
    ⊎_elim (λ e. inl (on ∙ e)) (λ e. inr (on ∙ e)) h
settles false n rest a h = inl (fails n rest refl)

pub settled : (point : Point) (forces : List Force) (count : ℕ)
    → Settled (rope_order point forces count) ROPE (moved_under point (take count forces))
unfolding rope_order
settled point forces count =
    let end = moved_under point (take count forces) in
    settles _ ROPE _ end (settles _ ROPE _ end (settles _ ROPE _ end (settles _ ROPE _ end
    (inr (gives end)))))
