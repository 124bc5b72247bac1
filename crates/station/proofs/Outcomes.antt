-- What a part answers, as the C face tells it; and what is told fills one slice.
use Prim.Native.Nat.{ℕ, ◌+◌, ◌≤◌}
use mathlib.Core.Path.{◌≡◌, refl, sym, ap, ◌∙◌}
use mathlib.Core.List.{List}
use native.Mathlib.Omega.{arith}
use lib.ListN.{length}
use Rattle.std.specs.Prelude.{Result, IsErrAnd}
use Rattle.std.proofs.lemmas.Result.{err_from_is_err_and}
use Rattle.basis.specs.Filled.{filled}
use Rattle.basis.specs.Order.{Answer, refused, accepted}
use Rattle.basis.proofs.Lists.{stored, stored_all, paste_all}
use Rattle.basis.specs.Refusal.{number_of, answer_of}
use Rattle.basis.specs.declared.Refusal.{Refusal}
use Rattle.station.specs.Left.{fills, DONE}
use Rattle.station.specs.Told.{told_of}

-- At the exit of a `?` the refusal that it was given goes on, and its number is told.
module _ (why : Refusal) where
  pub passed_on : {A : Type 0} (out : Result A Refusal) → IsErrAnd out (λ r. r ≡ why)
      → answer_of out ≡ refused (number_of why)
  passed_on out e = let p = err_from_is_err_and out e in rw (p.1, p.2)

  pub told_on : (out : Result ℕ Refusal) → IsErrAnd out (λ r. r ≡ why)
      → told_of out ≡ number_of why
  told_on out e = let p = err_from_is_err_and out e in rw (p.1, p.2)

-- Of a call that may change one slice alone, by what its order comes to.
module _ {A : Type 0} (before : List A) {a : Answer (List A)} where
  pub refused_fills : {number : ℕ} → a ≡ refused number → filled number before ≡ fills before a
  refused_fills e = sym (ap (fills before) e)

  pub given_fills : {after : List A} → a ≡ accepted after → filled DONE after ≡ fills before a
  given_fills e = sym (ap (fills before) e)

-- Elements stored one after the other over a slice of as many.
pub stores : {A : Type 0} (d s : List A) → length d ≡ length s → stored d 0 0 s ≡ s
stores d s e =
    let room : 0 + length s ≤ length d = omega (arith, e) in
    stored_all d 0 s room ∙ paste_all d s (length s) e refl

-- What a call gives, stored so in its slice.
pub stored_fills : {A : Type 0} (before parts : List A) {a : Answer (List A)}
    → length before ≡ length parts → a ≡ accepted parts
    → filled DONE (stored before 0 0 parts) ≡ fills before a
stored_fills before parts e given =
    ap (filled DONE) (stores before parts e) ∙ given_fills before given
