-- What is claimed of the numbers, of orders and of little-endian numbers; proofs/Statements.antt
-- proves it.
use Rattle.std.specs.Prelude.{ℕ, ◌<◌, ◌^◌, ◌≡◌, ◌↔◌, ◌⊎◌, Bool, true, false, List, length}
use Rattle.basis.specs.Order.{refused, accepted, Order, check, answer, First, Passed}
use Rattle.basis.specs.Order.{and_then}
use Rattle.basis.specs.Numbers.{TAKEN, HELD, MALFORMED, CARRIER, LEVER, STEP, CONFLICT, LATE}
use Rattle.basis.specs.Numbers.{FULL, WORLD, ROOM, BACKWARD, END, LOG, FAULT, LOAD, ROPE}
use Rattle.basis.specs.LittleEndian.{value_of, little_endian, Bytes}

-- 'Numbers given back': each name and its number.
pub record Table : Type 0 where
  pub taken : TAKEN ≡ 0
  pub held : HELD ≡ 1
  pub malformed : MALFORMED ≡ 2
  pub carrier : CARRIER ≡ 3
  pub lever : LEVER ≡ 4
  pub step : STEP ≡ 5
  pub conflict : CONFLICT ≡ 6
  pub late : LATE ≡ 7
  pub full : FULL ≡ 8
  pub world : WORLD ≡ 9
  pub room : ROOM ≡ 10
  pub backward : BACKWARD ≡ 11
  pub end : END ≡ 12
  pub log : LOG ≡ 13
  pub fault : FAULT ≡ 14
  -- 'refused as 17' (02 §7)
  pub load : LOAD ≡ 17
  -- 'refused as 18' (02 §8)
  pub rope : ROPE ≡ 18

-- 'each given exactly when its rule says' (demand 1): what holds of any order at all. What document
-- 01's own orders give, and when, is said in plain facts in `demands`.
pub record ExactlyWhen : Type 1 where
  -- A number comes back if and only if a test with it is the first of the order that fails.
  pub number : {A : Type 0} (order : Order A) (n : ℕ) → (answer order ≡ refused n) ↔ First n order
  -- With a test on top: it fails and has this number, or it passes and the rest decides.
  pub first : {A : Type 0} (test : Bool) (number : ℕ) (rest : Order A) (n : ℕ)
      → First n (check test number rest)
      ↔ (((test ≡ false) × (number ≡ n)) ⊎ ((test ≡ true) × First n rest))
  -- Of an order that goes on: the first part refuses, or it gives something and the rest refuses.
  pub further : {A B : Type 0} (order : Order A) (next : A → Order B) (n : ℕ)
      → First n (and_then order next)
      ↔ (First n order ⊎ ((a : A) × Passed a order × First n (next a)))
  -- A call is accepted with this answer if and only if no test fails and this is given.
  pub result : {A : Type 0} (order : Order A) (a : A) → (answer order ≡ accepted a) ↔ Passed a order

-- 'The record's width facts are proved once over the width.'
pub record Width : Type 0 where
  -- A number has as many bytes as the width says.
  pub long : (width x : ℕ) → length (little_endian width x) ≡ width
  -- Each of them is a byte.
  pub bytes : (width x : ℕ) → Bytes (little_endian width x)
  -- What is written is read back.
  pub read : (width x : ℕ) → x < 256 ^ width → value_of (little_endian width x) ≡ x
  -- What is read is written back.
  pub written : (list : List ℕ) → Bytes list → little_endian (length list) (value_of list) ≡ list
  -- Bytes hold no number that their width can't hold.
  pub below : (list : List ℕ) → Bytes list → value_of list < 256 ^ length list
