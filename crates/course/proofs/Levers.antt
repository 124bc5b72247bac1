-- Laws of the lever held at a place: after a record is put in, and without those of later steps.
use Prim.Native.Nat.{ℕ, ◌<◌}
use mathlib.Core.Path.{◌≡◌, refl, ◌∙◌}
use mathlib.Core.Bool.{Bool, true, false, cond, ◌&&◌}
use mathlib.Core.List.{List, [], ◌∷◌}
use Rattle.std.specs.Prelude.{Some}
use native.Mathlib.Omega.{arith}
use lib.Dec.{ltb, eqb}
use borrow.Author.Tests.{le-ltb, ltb-false, eq-eqb, ne_eqb, eqb-true}
use Rattle.basis.proofs.Tests.{never, and_left, and_right}
use Rattle.record.specs.Log.{precedes}
use Rattle.record.specs.Buffer.{lever_at, put_in}
use Rattle.record.specs.Part.{earlier}
use Rattle.record.specs.declared.bytes.Record.{Record}

-- A record stands at a place.
pub record At (t number : ℕ) (r : Record) : Type 0 where
  pub step : r.step ≡ t
  pub carrier : r.carrier ≡ number

-- One place holds one lever.
pub at_same : (l : List Record) {t number : ℕ} {r : Record} → At t number r
    → lever_at r.step r.carrier l ≡ lever_at t number l
at_same l at = rw (at.step, at.carrier)

-- The same as a test, as `lever_at` makes it.
stands_at : ℕ → ℕ → Record → Bool
stands_at t carrier r = eqb r.step t && eqb r.carrier carrier

module _ (t carrier : ℕ) where
  stands : (r : Record) → stands_at t carrier r ≡ true → At t carrier r
  unfolding stands_at
  stands r e =
      record {
        step = eqb-true _ _ (and_left _ (eqb r.carrier carrier) e);
        carrier = eqb-true _ _ (and_right (eqb r.step t) _ e);
      }

  -- Of two records at one place, neither precedes the other.
  not_before : (r s : Record) → At t carrier r → At t carrier s → precedes s r ≡ false
  unfolding precedes
  not_before r s p q =
      rw (
        le-ltb s.step r.step (omega arith),
        eq-eqb s.step r.step (omega arith),
        le-ltb s.carrier r.carrier (omega arith),
      )

  put_lever : (r : Record) (l : List Record)
      → lever_at t carrier (put_in r l)
      ≡ cond (stands_at t carrier r) (Some r.lever) (lever_at t carrier l)
  unfolding lever_at put_in stands_at
  put_lever r [] = refl
  put_lever r (s ∷ rest) = go (precedes s r) refl _ refl _ refl (put_lever r rest)
    where
      go : (b : Bool) → precedes s r ≡ b → (x : Bool) → stands_at t carrier s ≡ x
          → (y : Bool) → stands_at t carrier r ≡ y
          → lever_at t carrier (put_in r rest) ≡ cond y (Some r.lever) (lever_at t carrier rest)
          → lever_at t carrier (cond b (s ∷ put_in r rest) (r ∷ s ∷ rest))
          ≡ cond y (Some r.lever) (cond x (Some s.lever) (lever_at t carrier rest))
      go true b true x true y ih = never b (not_before r s (stands r y) (stands s x))
      go true b true x false y ih = rw x
      go true b false x y' y ih = rw (x, ih)
      go false b x' x y' y ih = rw (y, x)

  -- Elsewhere than at its place a record that is put in changes nothing.
  pub put_other : (r : Record) (l : List Record) → (At t carrier r → ⊥)
      → lever_at t carrier (put_in r l) ≡ lever_at t carrier l
  put_other r l apart = put_lever r l ∙ go (stands_at t carrier r) refl
    where
      go : (b : Bool) → stands_at t carrier r ≡ b
          → cond b (Some r.lever) (lever_at t carrier l) ≡ lever_at t carrier l
      go true e = absurd (apart (stands r e))
      go false e = refl

  -- Two records put in at different places hold the same levers in either order.
  pub put_either : (r s : Record) (l : List Record) → (At s.step s.carrier r → ⊥)
      → lever_at t carrier (put_in s (put_in r l)) ≡ lever_at t carrier (put_in r (put_in s l))
  put_either r s l apart =
      rw (put_lever s (put_in r l), put_lever r l, put_lever r (put_in s l), put_lever s l)
      (go (stands_at t carrier r) refl (stands_at t carrier s) refl)
    where
      go : (x : Bool) → stands_at t carrier r ≡ x → (y : Bool) → stands_at t carrier s ≡ y
          → cond y (Some s.lever) (cond x (Some r.lever) (lever_at t carrier l))
          ≡ cond x (Some r.lever) (cond y (Some s.lever) (lever_at t carrier l))
      go true x true y =
          let p = stands r x in
          let q = stands s y in
          absurd (apart (omega arith))
      go true x false y = refl
      go false x y' y = refl

  -- Records for later steps say nothing of an earlier one.
  pub earlier_lever : (n : ℕ) (l : List Record) → t < n
      → lever_at t carrier (earlier n l) ≡ lever_at t carrier l
  unfolding lever_at earlier
  earlier_lever n [] h = refl
  earlier_lever n (r ∷ rest) h = go (ltb r.step n) refl (earlier_lever n rest h)
    where
      go : (b : Bool) → ltb r.step n ≡ b
          → lever_at t carrier (earlier n rest) ≡ lever_at t carrier rest
          → lever_at t carrier (cond b (r ∷ earlier n rest) (earlier n rest))
          ≡ lever_at t carrier (r ∷ rest)
      go true e ih = rw ih
      go false e ih =
          let apart : r.step ≡ t → ⊥ = omega (arith, ltb-false r.step n e) in
          rw (ne_eqb r.step t apart) ih

-- At its own place its lever is held.
pub put_own : (r : Record) (l : List Record)
    → lever_at r.step r.carrier (put_in r l) ≡ Some r.lever
unfolding stands_at
put_own r l =
    put_lever r.step r.carrier r l
    ∙ rw (eq-eqb r.step r.step refl, eq-eqb r.carrier r.carrier refl)
