-- A test is true or false: laws by cases; those of `basis` are passed on.
use mathlib.Core.Path.{◌≡◌, refl}
use mathlib.Core.Bool.{Bool, true, false, not, ◌&&◌}
use mathlib.Core.Logic.{◌⊎◌, inl, inr}
use borrow.Author.Tests.{not-true}
use Rattle.basis.proofs.Tests.{never}
pub use Rattle.basis.proofs.Tests.{of_cond, passed, failed}

pub either : (t : Bool) → (t ≡ true) ⊎ (t ≡ false)
either true = inl refl
either false = inr refl

-- Not both: where the second holds, the first does not.
pub not_both : (s t : Bool) → (t ≡ true → s ≡ false) → not (s && t) ≡ true
not_both true true h = never refl (h refl)
not_both true false h = refl
not_both false t h = refl

pub both_not : (s t : Bool) → not (s && t) ≡ true → t ≡ true → s ≡ false
both_not true t e p = never p (not-true t e)
both_not false t e p = refl
