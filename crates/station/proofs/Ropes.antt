-- Kinds and numbers as forces, one by one; and the ways through the step of a rope end.
use Prim.Native.Nat.{ℕ, suc, ◌+◌, ◌*◌, ◌≤◌, ◌<◌}
use mathlib.Core.Path.{◌≡◌, refl, sym, ap, ◌∙◌}
use mathlib.Core.Bool.{Bool, true, false}
use mathlib.Core.List.{List, [], ◌∷◌, ◌++◌, append_assoc, append-nil}
use native.Mathlib.Nat.{add-zero}
use native.Mathlib.Numerals.{add-one}
use native.Mathlib.Omega.{arith}
use lib.Ieee.{Float, nan}
use lib.ListN.{length, take, drop, get_or, set}
use lib.Seq.{drop-cons, drop-drop, drop-length, get_or-drop, take-suc-set, take_all}
use borrow.Rule.Slice.PartMut.{put_mid}
use borrow.Author.Tests.{eq-eqb, ne_eqb, le-leb, lt-leb}
use Rattle.basis.specs.Numbers.{ROOM, ROPE}
use Rattle.basis.specs.Order.{answer, refused, accepted, and_then, give}
use Rattle.basis.proofs.Order.{passes, fails, gives, given, apart, stops, goes_on}
use Rattle.rope.specs.Step.{rope_order}
use Rattle.rope.specs.declared.Point.{Point}
use Rattle.rope.specs.declared.Force.{Force}
use Rattle.rope.proofs.Steps.{too_many, same_counted}
use Rattle.std.proofs.lemmas.Slice.{take-put_mid}
use Rattle.station.specs.Ropes.{kinds_hold, force_of, forces_of, forces_order, point_of, rope_face}

-- One more element, put behind those that are in it already.
put_behind : {A : Type 0} (array : List A) (i : ℕ) (a : A) (rest : List A) → i < length array
    → take i array ++ (a ∷ rest) ≡ take (i + 1) (set array i a) ++ rest
put_behind array i a rest room =
    rw (add-one i, take-suc-set array i a room, append_assoc (take i array) (a ∷ []) rest)

-- The next kind.
module _ (kinds : List ℕ) (i : ℕ) (h : i < length kinds) where
  next_kind : drop i kinds ≡ get_or kinds i 0 ∷ drop (i + 1) kinds
  next_kind = rw (add-one, drop-cons kinds i 0)

  pub kind_fails : 2 < get_or kinds i 0 → kinds_hold (drop i kinds) ≡ false
  unfolding kinds_hold
  kind_fails bad = ap kinds_hold next_kind ∙ rw (lt-leb (get_or kinds i 0) 2 bad)

  pub kind_holds : get_or kinds i 0 ≤ 2
      → kinds_hold (drop i kinds) ≡ kinds_hold (drop (i + 1) kinds)
  unfolding kinds_hold
  kind_holds good = ap kinds_hold next_kind ∙ rw (le-leb (get_or kinds i 0) 2 good)

  -- And its force.
  next_force : (numbers : List Float)
      → forces_of (drop i kinds) (drop (2 * i) numbers)
      ≡ force_of (get_or kinds i 0) (get_or numbers (2 * i) nan) (get_or numbers (2 * i + 1) nan)
      ∷ forces_of (drop (i + 1) kinds) (drop (2 * (i + 1)) numbers)
  unfolding forces_of
  next_force numbers =
      let two : 2 * i + 2 ≡ 2 * (i + 1) = omega arith in
      ap (λ l. forces_of l (drop (2 * i) numbers)) next_kind
      ∙ rw (
        get_or-drop (2 * i) numbers 0 nan,
        get_or-drop (2 * i) numbers 1 nan,
        add-zero (2 * i),
        drop-drop 2 (2 * i) numbers,
        two,
      )

  -- Put behind those that are there already.
  pub force_put : (numbers : List Float) (forces : List Force) → i < length forces
      → take i forces ++ forces_of (drop i kinds) (drop (2 * i) numbers)
      ≡ take (i + 1)
      (set forces i
      (force_of (get_or kinds i 0) (get_or numbers (2 * i) nan) (get_or numbers (2 * i + 1) nan)))
      ++ forces_of (drop (i + 1) kinds) (drop (2 * (i + 1)) numbers)
  force_put numbers forces room =
      ap (λ l. take i forces ++ l) (next_force numbers) ∙ put_behind forces i _ _ room

-- A kind that is none, and all of them put in.
module _ (kinds : List ℕ) (numbers : List Float) (i : ℕ) where
  pub unknown_kind : i < length kinds → 2 < get_or kinds i 0
      → kinds_hold kinds ≡ kinds_hold (drop i kinds)
      → answer (forces_order kinds numbers) ≡ refused ROPE
  unfolding forces_order
  unknown_kind h bad e = fails _ _ (e ∙ kind_fails kinds i h bad)

  pub all_known : length kinds ≤ i → i ≤ length kinds → (forces : List Force)
      → length forces ≡ length kinds → kinds_hold kinds ≡ kinds_hold (drop i kinds)
      → take i forces ++ forces_of (drop i kinds) (drop (2 * i) numbers) ≡ forces_of kinds numbers
      → accepted forces ≡ answer (forces_order kinds numbers)
  unfolding forces_order kinds_hold forces_of
  all_known low high forces long e put =
      let end : i ≡ length kinds = omega arith in
      let none : drop i kinds ≡ [] = ap (λ n. drop n kinds) end ∙ drop-length kinds in
      let all : forces ≡ forces_of kinds numbers =
      sym (take_all i forces (omega arith))
      ∙ sym (append-nil (take i forces))
      ∙ sym (ap (λ l. take i forces ++ forces_of l (drop (2 * i) numbers)) none)
      ∙ put in
      ap accepted all ∙ sym (passes _ _ (e ∙ ap kinds_hold none) ∙ gives _)

forces_length : (kinds : List ℕ) (numbers : List Float)
    → length (forces_of kinds numbers) ≡ length kinds
unfolding forces_of
forces_length [] numbers = refl
forces_length (kind ∷ kinds) numbers = ap suc (forces_length kinds (drop 2 numbers))

-- Each of them counts.
pub all_forces : (kinds : List ℕ) (numbers : List Float)
    → take (length kinds) (forces_of kinds numbers) ≡ forces_of kinds numbers
all_forces kinds numbers =
    take_all (length kinds) (forces_of kinds numbers) (omega (arith, forces_length kinds numbers))

module _ (kinds : List ℕ) (numbers point : List Float) where
  pub wrong_numbers : (length numbers ≡ 2 * length kinds → ⊥)
      → answer (rope_face kinds numbers point) ≡ refused ROOM
  unfolding rope_face
  wrong_numbers h = fails _ _ (ne_eqb _ _ h)

  module _ (two : length numbers ≡ 2 * length kinds) where
    pub wrong_point : (length point ≡ 2 → ⊥) → answer (rope_face kinds numbers point) ≡ refused ROOM
    unfolding rope_face
    wrong_point h = passes _ _ (eq-eqb _ _ two) ∙ fails _ _ (ne_eqb _ _ h)

    module _ (long : length point ≡ 2) where
      pub wrong_kind : kinds_hold kinds ≡ false
          → answer (rope_face kinds numbers point) ≡ refused ROPE
      unfolding rope_face
      wrong_kind e = passes _ _ (eq-eqb _ _ two) ∙ passes _ _ (eq-eqb _ _ long) ∙ fails _ _ e

      -- With kinds that hold, the step of their forces decides.
      pub steps : kinds_hold kinds ≡ true
          → answer (rope_face kinds numbers point)
          ≡ answer (and_then (rope_order (point_of point) (forces_of kinds numbers) (length kinds))
          (λ next. give (next.place ∷ next.speed ∷ [])))
      unfolding rope_face
      steps known = passes _ _ (eq-eqb _ _ two) ∙ passes _ _ (eq-eqb _ _ long) ∙ passes _ _ known

      -- More than eight are refused, whatever their kinds.
      pub too_many_kinds : 8 < length kinds → answer (rope_face kinds numbers point) ≡ refused ROPE
      too_many_kinds h = go (kinds_hold kinds) refl
        where
          go : (t : Bool) → kinds_hold kinds ≡ t
              → answer (rope_face kinds numbers point) ≡ refused ROPE
          go true e = steps e ∙ stops _ _ (too_many (point_of point) (forces_of kinds numbers) _ h)
          go false e = wrong_kind e

      -- The forces as the code has made them.
      pub not_made : {number : ℕ} → answer (forces_order kinds numbers) ≡ refused number
          → answer (rope_face kinds numbers point) ≡ refused number
      unfolding forces_order
      not_made {number} e = go (kinds_hold kinds) refl
        where
          go : (t : Bool) → kinds_hold kinds ≡ t
              → answer (rope_face kinds numbers point) ≡ refused number
          go true known = apart (sym e ∙ passes _ _ known ∙ gives _)
          go false none =
              let same : ROPE ≡ number = cc (sym e ∙ fails _ _ none) in
              wrong_kind none ∙ ap refused same

      module _ {forces : List Force} (made : answer (forces_order kinds numbers) ≡ accepted forces)
        where
          decides : answer (rope_face kinds numbers point)
              ≡ answer (and_then (rope_order (point_of point) forces (length forces))
              (λ next. give (next.place ∷ next.speed ∷ [])))
          unfolding forces_order
          decides = go (kinds_hold kinds) refl
            where
              go : (t : Bool) → kinds_hold kinds ≡ t
                  → answer (rope_face kinds numbers point)
                  ≡ answer (and_then (rope_order (point_of point) forces (length forces))
                  (λ next. give (next.place ∷ next.speed ∷ [])))
              go false none = apart (sym (fails _ _ none) ∙ made)
              go true known =
                  let same : forces_of kinds numbers ≡ forces =
                  given _ (sym (passes _ _ known) ∙ made) in
                  let long : length kinds ≡ length forces =
                  sym (forces_length kinds numbers) ∙ ap length same in
                  steps known ∙ rw (same, long)

          pub step_refused : {number : ℕ}
              → answer (rope_order (point_of point) forces (length forces)) ≡ refused number
              → answer (rope_face kinds numbers point) ≡ refused number
          step_refused e = decides ∙ stops _ _ e

          pub step_moved : {next : Point}
              → answer (rope_order (point_of point) forces (length forces)) ≡ accepted next
              → answer (rope_face kinds numbers point) ≡ accepted (next.place ∷ next.speed ∷ [])
          step_moved e = decides ∙ goes_on _ _ e ∙ gives _

-- Of an array whose front they are put into, so many forces count: those.
pub front_counts : (point : Point) (forces array : List Force) (n : ℕ) → length forces ≡ n
    → answer (rope_order point forces (length forces))
    ≡ answer (rope_order point (put_mid 0 n array forces) n)
front_counts point forces array n long =
    rw long
    (same_counted point forces (put_mid 0 n array forces) n
    (take_all n forces (omega (arith, long))
    ∙ sym (take-put_mid 0 n array forces n (omega (arith, long)) (omega arith))))
