-- Document 01, 'Numbers given back': a table of numbers in the order of 'Order', each with the
-- plain fact where it is given.
use Rattle.std.specs.Prelude.{ℕ, ◌≤◌, ◌≡◌, ◌↔◌, ◌⊎◌, List}
use Rattle.basis.specs.Filled.{Filled, filled}
use Rattle.session.specs.Lent.{Lent}
use Rattle.station.specs.Left.{Left, left}

-- `9 when A or 10 when B or done 255` gives 9 where A holds, 10 where B holds and A doesn't, and
-- 255 where neither does.
pub data Table : Type 1 where
  ◌when◌or◌ : ℕ → Type 0 → Table → Table
  done : ℕ → Table

infixr 1 ◌when◌or◌
-- n is given: it stands at the first fact that holds, or at the end and none holds.
abbrev pub Gives : Table → ℕ → Type 0
Gives (number when fact or rest) n = (fact × (n ≡ number)) ⊎ ((fact → ⊥) × Gives rest n)
Gives (done number) n = n ≡ number

-- What a function answers and leaves, by its table. Numbers from `least` to 14 change nothing: from
-- 2, the refusals; of a delivery from 1, as HELD does so too.
pub record Answers {O : Type 0} (least : ℕ) (table : Table) (number : ℕ) (out before after : O)
    : Type 0 where
  -- 'each given exactly when its rule says'
  pub exactly : (n : ℕ) → (number ≡ n) ↔ Gives table n
  -- Done; or 'the number comes back, and the session and all lent bytes and words are as before'.
  pub leaves : (out ≡ after) ⊎ ((least ≤ number) × (number ≤ 14) × (out ≡ before))

-- Of a function that fills one slice: 255 and this in it, or 2 to 14 and what it held.
abbrev pub Fills : {A : Type 0} → List A → Table → Filled ℕ A → List A → Type 0
Fills before table out after =
    Answers 2 table out.answer out (filled out.answer before) (filled 255 after)

-- Of one that may change the state, the rows, the log and the session, which held these.
abbrev pub Leaves : ℕ → Lent → List ℕ → Table → Left → Left → Type 0
Leaves least l words table out =
    Answers least table out.number out
    (left out.number l.state l.rows l.log words)
