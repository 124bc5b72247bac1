-- What `{}` writes of a number is its decimal.
use Prim.Native.Nat.{ℕ, zero, suc, ◌*◌, ◌/◌, ◌%◌, ◌+◌, ◌^◌, ◌<◌, ◌≤◌}
use mathlib.Core.Path.{◌≡◌, refl, ap, ◌∙◌}
use mathlib.Core.Bool.{Bool, true, false}
use mathlib.Core.List.{List, [], ◌∷◌, ◌++◌}
use native.Mathlib.Nat.{pow-zero, pow-succ'}
use native.Mathlib.Omega.{arith}
use lib.Dec.{ltb}
use lib.IntN.{ℤ, pos, negsuc}
use borrow.Author.Tests.{ltb-true, ltb-false}
use lib.Signed.{mag}
use Rattle.std.specs.Fmt.{decimal as written, signed_decimal}
use Rattle.std.proofs.lemmas.Fmt.{decimal_digit, decimal_step}
use Rattle.rerun.specs.Text.{decimal_to, decimal, word_text}

-- A number of ten or more has more than one digit.
fewer : (most n : ℕ) → 10 ≤ n → n < 10 ^ suc most → 1 ≤ most
fewer zero n great within = absurd (omega (arith, pow-succ' 10 0, pow-zero 10))
fewer (suc most) n great within = omega arith

same_to : (most n : ℕ) → 1 ≤ most → n < 10 ^ most → n < 2 ^ 64 → written n ≡ decimal_to most n
unfolding decimal_to
same_to zero n some within h = absurd (omega arith)
same_to (suc most) n some within h = go (ltb n 10) refl (same_to most (n / 10))
  where
    go : (t : Bool) → ltb n 10 ≡ t
        → (1 ≤ most → n / 10 < 10 ^ most → n / 10 < 2 ^ 64
        → written (n / 10) ≡ decimal_to most (n / 10))
        → written n ≡ decimal_to (suc most) n
    go true e next = rw e (decimal_digit n (ltb-true _ _ e))
    go false e next =
        let great : 10 ≤ n = ltb-false _ _ e in
        let up : 10 ^ suc most ≡ 10 * 10 ^ most = pow-succ' 10 most in
        let more = fewer most n great within in
        rw e
        (decimal_step n great h
        ∙ ap (λ (l : List ℕ). l ++ ((48 + n % 10) ∷ []))
        (next more (omega (arith, up)) (omega arith)))

-- Any u64 has at most 20 digits.
pub same : (n : ℕ) → n < 2 ^ 64 → written n ≡ decimal n
same n h = same_to 20 n (omega arith) (omega arith) h

-- A word with its sign, after a space.
pub same_word : (z : ℤ) → mag z < 2 ^ 63 → (32 ∷ []) ++ signed_decimal z ≡ word_text z
unfolding word_text
same_word (pos n) h = ap (λ l. 32 ∷ l) (same n (omega (arith, h)))
same_word (negsuc n) h = ap (λ l. 32 ∷ 45 ∷ l) (same (suc n) (omega (arith, h)))
