-- Laws of steps, saved rows and going back, over any world: a record can't reach back, and steps
-- made again leave no row of the first time.
use Prim.Native.Nat.{ℕ, zero, suc, ◌+◌, ◌-◌, ◌%◌, ◌<◌, ◌≤◌}
use mathlib.Core.Path.{◌≡◌, refl, ap₂, fun_ext, ◌∙◌}
use mathlib.Core.Logic.{◌≢◌}
use mathlib.Core.Bool.{Bool, true, false}
use mathlib.Core.List.{List}
use native.Mathlib.Nat.{add-zero, add-suc}
use native.Mathlib.Omega.{arith}
use lib.Dec.{eqb}
use lib.ListN.{length, get_or, set, length-set, length-replicate, get_or-replicate}
use lib.Seq.{set-set, set_comm, get_or-set_same, get_or-set_other}
use borrow.Author.Tests.{eqb-true, eqb-false}
use Rattle.basis.specs.Numbers.{row_count}
use Rattle.record.specs.declared.bytes.Record.{Record}
use Rattle.course.specs.World.{World, after, rows_after}
use Rattle.course.specs.Session.{Made, steps, go_back}
use Rattle.course.proofs.Records.{SameAt}

-- Two logs hold the same levers at every step below n.
pub record Agree (n : ℕ) (l m : List Record) : Type 0 where
  pub below : (t : ℕ) → t < n → SameAt t l m

pub agree_below : {n : ℕ} {l m : List Record} (t : ℕ) → t ≤ n → Agree n l m → Agree t l m
agree_below t h same = record { below = λ u k. same.below u (omega arith) }

module _ (world : World) where
  -- The state of demand 2 with these rows, and with its own.
  abbrev after_with : ℕ → List Record → List world.State → Made world
  after_with n log rows = record { state = after world n log; rows = rows }

  abbrev pub made_after : ℕ → List Record → Made world
  made_after n log = after_with n log (rows_after world n log)

  -- Logs that agree below n give the same state after n steps, and the same rows.
  pub after_agree : (n : ℕ) {l m : List Record} → Agree n l m → after world n l ≡ after world n m
  unfolding after
  after_agree zero same = refl
  after_agree (suc n) same =
      ap₂ world.step
      (fun_ext (same.below n (omega arith)))
      (after_agree n (agree_below n (omega arith) same))

  rows_agree : (n : ℕ) {l m : List Record} → Agree n l m → rows_after world n l ≡ rows_after world n m
  unfolding rows_after
  rows_agree zero same = refl
  rows_agree (suc n) same =
      let before = agree_below n (omega arith) same in
      ap₂ (λ rows state. set rows (n % row_count) state) (rows_agree n before) (after_agree n before)

  pub made_agree : (n : ℕ) {l m : List Record} → Agree n l m → made_after n l ≡ made_after n m
  made_agree n same = rw (after_agree n same, rows_agree n same)

  -- There are 64 rows.
  pub length_rows : (n : ℕ) (log : List Record) → length (rows_after world n log) ≡ row_count
  unfolding rows_after
  length_rows zero log = length-replicate row_count world.blank
  length_rows (suc n) log = rw length-set (length_rows n log)

  -- Row t mod 64 is the state before step t, for the last 64 steps made.
  pub row_saved : (n t : ℕ) (log : List Record) → t < n → n ≤ t + row_count
      → get_or (rows_after world n log) (t % row_count) world.blank ≡ after world t log
  unfolding rows_after
  row_saved zero t log h k = elim h [ ]
  row_saved (suc n) t log h k = go (eqb t n) refl (row_saved n t log)
    where
      rows : List world.State
      rows = rows_after world n log

      go : (same : Bool) → eqb t n ≡ same
          → (t < n → n ≤ t + row_count → get_or rows (t % row_count) world.blank ≡ after world t log)
          → get_or (set rows (n % row_count) (after world n log)) (t % row_count) world.blank
          ≡ after world t log
      go true e f =
          rw (eqb-true t n e)
          (get_or-set_same rows (n % row_count) _ world.blank (omega (arith, length_rows n log)))
      go false e f =
          let apart : t ≢ n = eqb-false t n e in
          let other : (t % row_count) ≢ (n % row_count) = omega arith in
          get_or-set_other rows (n % row_count) (t % row_count) _ world.blank other
          ∙ f (omega arith) (omega arith)

  -- A row that no step has used is as opening filled it.
  pub row_blank : (n i : ℕ) (log : List Record) → n ≤ i → i < row_count
      → get_or (rows_after world n log) i world.blank ≡ world.blank
  unfolding rows_after
  row_blank zero i log h k = get_or-replicate row_count i world.blank world.blank k
  row_blank (suc n) i log h k =
      let other : i ≢ (n % row_count) = omega arith in
      get_or-set_other (rows_after world n log) (n % row_count) i _ world.blank other
      ∙ row_blank n i log (omega arith) k

  -- These rows with those of k steps from step t on stored over them.
  stored : List Record → ℕ → ℕ → List world.State → List world.State
  stored log t zero rows = rows
  stored log t (suc k) rows =
      set (stored log t k rows) ((t + k) % row_count) (after world (t + k) log)

  -- Steps from the state after t steps move it on, and store their rows.
  steps_store : (log : List Record) (t k : ℕ) (rows : List world.State)
      → steps log t k (after_with t log rows) ≡ after_with (t + k) log (stored log t k rows)
  unfolding steps stored after
  steps_store log t zero rows = rw (add-zero t)
  steps_store log t (suc k) rows = rw (steps_store log t k rows, add-suc t k)

  rows_store : (log : List Record) (t k : ℕ)
      → rows_after world (t + k) log ≡ stored log t k (rows_after world t log)
  unfolding stored rows_after
  rows_store log t zero = rw (add-zero t)
  rows_store log t (suc k) = rw (add-suc t k, rows_store log t k)

  -- A store to row i is covered by a later store to row i, whatever is stored between.
  store_covered : (log : List Record) (t k : ℕ) (rows : List world.State) (i : ℕ)
      (old new : world.State)
      → set (stored log t k (set rows i old)) i new ≡ set (stored log t k rows) i new
  unfolding stored
  store_covered log t zero rows i old new = set-set rows i old new
  store_covered log t (suc k) rows i old new =
      go (eqb j i) refl (store_covered log t k rows i old new)
    where
      j : ℕ
      j = (t + k) % row_count

      row : world.State
      row = after world (t + k) log

      go : (same : Bool) → eqb j i ≡ same
          → set (stored log t k (set rows i old)) i new ≡ set (stored log t k rows) i new
          → set (set (stored log t k (set rows i old)) j row) i new
          ≡ set (set (stored log t k rows) j row) i new
      go true e ih = rw (eqb-true j i e) (simp set-set ih)
      go false e ih =
          let other : j ≢ i = eqb-false j i e in
          rw (
            set_comm (stored log t k (set rows i old)) j i row new other,
            set_comm (stored log t k rows) j i row new other,
            ih,
          )

  -- Steps made again, under other records, leave no row of the first time.
  stored_again : (l m : List Record) (t k : ℕ) (rows : List world.State)
      → stored m t k (stored l t k rows) ≡ stored m t k rows
  unfolding stored
  stored_again l m t zero rows = refl
  stored_again l m t (suc k) rows =
      store_covered m t k (stored l t k rows) ((t + k) % row_count) _ _
      ∙ rw (stored_again l m t k rows)

  -- Steps made on from what demand 2 says give what demand 2 says.
  pub steps_on : (log : List Record) (t k : ℕ)
      → steps log t k (made_after t log) ≡ made_after (t + k) log
  steps_on log t k = steps_store log t k (rows_after world t log) ∙ rw (rows_store log t k)

  -- So does going back to step t, under records that agree below step t with those before.
  again : {l m : List Record} (t k : ℕ) → Agree t l m
      → steps m t k (after_with t l (rows_after world (t + k) l)) ≡ made_after (t + k) m
  again {l} {m} t k same =
      rw (after_agree t same)
      (steps_store m t k (rows_after world (t + k) l)
      ∙ rw (
        rows_store l t k,
        stored_again l m t k (rows_after world t l),
        rows_agree t same,
        rows_store m t k,
      ))

  pub back_is : {l m : List Record} (t n : ℕ) → t < n → n ≤ t + row_count → Agree t l m
      → go_back m t n (made_after n l) ≡ made_after n m
  back_is {l} t n h k same =
      let on : t + (n - t) ≡ n = omega arith in
      rw (row_saved n t l h k) (rw on at (again t (n - t) same))
