-- Document 01, 'Numbers given back' and 'Order': rules tested in turn, each with its number; and
-- 'any two outcomes allowed by it coincide', of a contract.
use Rattle.std.specs.Prelude.{ℕ, ◌≡◌, Bool, true, false}

-- What a call comes to: a refusal by its number, or what an accepted call gives.
pub data Answer (A : Type 0) : Type 0 where
  refused : ℕ → Answer A
  accepted : A → Answer A

-- An order of refusals: each rule a test and its number where it fails; at the end what is given.
pub data Order (A : Type 0) : Type 0 where
  check : Bool → ℕ → Order A → Order A
  give : A → Order A

-- The number of the first test that fails; where none does, what is given.
unfoldable pub answer : {A : Type 0} → Order A → Answer A
answer (check true number rest) = answer rest
answer (check false number rest) = refused number
answer (give a) = accepted a

-- The first test of the order that fails has this number. In `check true 14 (check false 11 rest)`
-- the test of 14 holds, `later`, and that of 11 fails, `here`: `later here` is `First 11` of it.
pub data First {A : Type 0} (number : ℕ) : Order A → Type 0 where
  here : {rest : Order A} → First number (check false number rest)
  later : {earlier : ℕ} {rest : Order A} → First number rest
      → First number (check true earlier rest)

-- No test of the order fails, and this is given at its end.
pub data Passed {A : Type 0} (a : A) : Order A → Type 0 where
  end : Passed a (give a)
  after : {earlier : ℕ} {rest : Order A} → Passed a rest → Passed a (check true earlier rest)

-- Whether a call is accepted.
abbrev pub is_accepted : {A : Type 0} → Answer A → Bool
is_accepted (accepted a) = true
is_accepted (refused number) = false

-- An order that goes on: the tests of the first; where none fails, those made of what it gives.
unfoldable pub and_then : {A B : Type 0} → Order A → (A → Order B) → Order B
and_then (check test number rest) next = check test number (and_then rest next)
and_then (give a) next = next a

-- 'any two outcomes allowed by it coincide', of a contract: `says a` is that it allows outcome a.
abbrev pub Determines : {O : Type 0} → (O → Type 0) → Type 0
Determines {O} says = (a b : O) → says a → says b → a ≡ b
