-- The words of a carrier, in and out of a state.
use Prim.Native.Nat.{ℕ, zero, suc, ◌+◌, ◌*◌, ◌/◌, ◌%◌, ◌<◌, ◌≤◌}
use mathlib.Core.Path.{◌≡◌, refl, sym, ap, ◌∙◌}
use mathlib.Core.List.{List, ◌++◌}
use native.Mathlib.Nat.{add-zero, zero-add}
use native.Mathlib.Numerals.{add-one}
use native.Mathlib.Omega.{arith}
use lib.IntN.{ℤ, pos}
use lib.ListN.{length, get_or, set, drop, length-append}
use lib.Seq.{ext_get_or, length-paste, take_at, drop-append-add, drop-drop}
use Rattle.basis.proofs.Lists.{stored_all}
use Rattle.yard.specs.Boxes.{word}
use Rattle.yard.specs.Step.{at_rest}
use Rattle.yard.specs.declared.carrier.Carrier.{Carrier}
use Rattle.fleet.specs.State.{carrier_words, carrier, words_of, put, start_to}

-- A carrier is its five words.
pub same_words : (i k : ℕ) (a b : List ℤ)
    → ((j : ℕ) → j < carrier_words
    → get_or a (carrier_words * i + j) (pos 0) ≡ get_or b (carrier_words * k + j) (pos 0))
    → carrier i a ≡ carrier k b
unfolding carrier
same_words i k a b same =
    rw (
      same 0 (omega arith),
      same 1 (omega arith),
      same 2 (omega arith),
      same 3 (omega arith),
      same 4 (omega arith),
    )

pub carrier_is : (i : ℕ) (c : Carrier) (state : List ℤ)
    → ((j : ℕ) → j < carrier_words
    → get_or state (carrier_words * i + j) (pos 0) ≡ get_or (words_of c) j (pos 0))
    → carrier i state ≡ c
unfolding carrier words_of
carrier_is i c state words = same_words i 0 state (words_of c) (λ j h. rw zero-add (words j h))

words_back : (i k : ℕ) (state : List ℤ) → k < carrier_words
    → get_or (words_of (carrier i state)) k (pos 0) ≡ get_or state (carrier_words * i + k) (pos 0)
unfolding carrier words_of
words_back i zero state h = refl
words_back i (suc zero) state h = refl
words_back i (suc (suc zero)) state h = refl
words_back i (suc (suc (suc zero))) state h = refl
words_back i (suc (suc (suc (suc zero)))) state h = refl
words_back i (suc (suc (suc (suc (suc k))))) state h = absurd (omega arith)

-- States of B carriers that have the same carriers are the same words.
pub only_carriers : (b : ℕ) (state other : List ℤ) → length state ≡ carrier_words * b
    → length other ≡ carrier_words * b
    → ((i : ℕ) → i < b → carrier i state ≡ carrier i other) → state ≡ other
only_carriers b state other e q same =
    ext_get_or (pos 0) state other (e ∙ sym q)
    (λ j h.
    let i = j / carrier_words in
    let k = j % carrier_words in
    let at : carrier_words * i + k ≡ j = omega arith in
    let l : k < carrier_words = omega arith in
    rw at at
    (sym (words_back i k state l)
    ∙ ap (λ (c : Carrier). get_or (words_of c) k (pos 0)) (same i (omega arith))
    ∙ words_back i k other l))

-- One word after the other is the carrier put in its place.
pub put_words : (i : ℕ) (c : Carrier) (state : List ℤ)
    → carrier_words * i + carrier_words ≤ length state
    → let at = carrier_words * i in
    set (set (set (set (set state at c.x) (at + 1) c.y) (at + 2) c.u) (at + 3) c.v)
    (at + 4) c.lever
    ≡ put i c state
unfolding put words_of
put_words i c state h =
    rw (add-zero (carrier_words * i)) at (stored_all state (carrier_words * i) (words_of c) h)

pub length_put : (i : ℕ) (c : Carrier) (state : List ℤ)
    → carrier_words * i + carrier_words ≤ length state
    → length (put i c state) ≡ length state
unfolding put words_of
length_put i c state h =
    length-paste state (carrier_words * i) (words_of c) carrier_words h (omega arith)

-- The start, one carrier further.
pub length_start : (boxes : List ℤ) (i : ℕ) → length (start_to boxes i) ≡ carrier_words * i
unfolding start_to words_of
length_start boxes zero = refl
length_start boxes (suc i) =
    omega (
      arith,
      length-append (start_to boxes i) (words_of (at_rest (word boxes i 0) (word boxes i 1))),
      length_start boxes i,
    )

pub start_on : (boxes state : List ℤ) (i : ℕ) → carrier_words * i + carrier_words ≤ length state
    → put i (at_rest (word boxes i 0) (word boxes i 1))
    (start_to boxes i ++ drop (carrier_words * i) state)
    ≡ start_to boxes (i + 1) ++ drop (carrier_words * (i + 1)) state
unfolding put start_to words_of
start_on boxes state i h =
    let at = carrier_words * i in
    let long : length (start_to boxes i) ≡ at = length_start boxes i in
    let next : carrier_words * suc i ≡ at + carrier_words = omega arith in
    let rest : drop (at + carrier_words) (start_to boxes i ++ drop at state)
    ≡ drop (at + carrier_words) state =
    rw long at (drop-append-add (start_to boxes i) (drop at state) carrier_words)
    ∙ drop-drop carrier_words at state in
    rw (take_at (start_to boxes i) (drop at state) at long, rest, add-one i, next)
