-- What a call answered decides its result: of two refusals with one number, and of two answers.
use Prim.Native.Nat.{ℕ}
use mathlib.Core.Path.{◌≡◌, refl, sym, ◌∙◌, ap}
use Rattle.std.specs.Prelude.{cond, eqb, Result, Ok, Err}
use Rattle.basis.specs.Refusal.{number_of, answer_of}
use Rattle.basis.specs.declared.Refusal.{Refusal}
use Rattle.basis.specs.declared.Refusal.TheVariants as why

-- The refusal of a number.
abbrev by_number : ℕ → Refusal
by_number n =
    cond (eqb n 2) why.Malformed (
    cond (eqb n 3) why.Carrier (
    cond (eqb n 4) why.Lever (
    cond (eqb n 5) why.Step (
    cond (eqb n 6) why.Conflict (
    cond (eqb n 7) why.Late (
    cond (eqb n 8) why.Full (
    cond (eqb n 9) why.World (
    cond (eqb n 10) why.Room (
    cond (eqb n 11) why.Backward (
    cond (eqb n 12) why.End (
    cond (eqb n 13) why.Log (
    cond (eqb n 14) why.Fault (
    cond (eqb n 17) why.Load (
    why.Rope))))))))))))))

by_its_number : (r : Refusal) → by_number (number_of r) ≡ r
by_its_number why.Malformed = refl
by_its_number why.Carrier = refl
by_its_number why.Lever = refl
by_its_number why.Step = refl
by_its_number why.Conflict = refl
by_its_number why.Late = refl
by_its_number why.Full = refl
by_its_number why.World = refl
by_its_number why.Room = refl
by_its_number why.Backward = refl
by_its_number why.End = refl
by_its_number why.Log = refl
by_its_number why.Fault = refl
by_its_number why.Load = refl
by_its_number why.Rope = refl

pub one_refusal : (a b : Refusal) → number_of a ≡ number_of b → a ≡ b
one_refusal a b e = sym (by_its_number a) ∙ ap by_number e ∙ by_its_number b

pub one_answer : {A : Type 0} (a b : Result A Refusal) → answer_of a ≡ answer_of b → a ≡ b
one_answer (Ok x) (Ok y) e = cc
one_answer (Ok x) (Err s) e = cc
one_answer (Err r) (Ok y) e = cc
one_answer (Err r) (Err s) e = let n : number_of r ≡ number_of s = cc in ap Err (one_refusal r s n)
