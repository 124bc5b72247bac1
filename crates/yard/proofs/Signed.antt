-- Laws of signed words, beside those of `basis`, which are passed on.
use mathlib.Core.Path.{◌≡◌, refl}
use mathlib.Core.Bool.{false}
use lib.IntN.{ℤ, pos, negsuc, nat_abs}
use lib.Signed.{lt_z}
use Rattle.std.proofs.lemmas.Int.{ints, clamps, to_z-of_z}
use Rattle.basis.proofs.Tests.{never}
pub use Rattle.basis.proofs.Signed.{read, got, mag≤abs, small, abs_add, abs_neg, abs_sub}

-- Words read, cut and compared.
pub ruleset words = (ints, clamps, to_z-of_z)

-- A word that is not below 0 is its magnitude.
pub not_below : (z : ℤ) → lt_z z (pos 0) ≡ false → z ≡ pos (nat_abs z)
not_below (pos n) e = refl
not_below (negsuc n) e = never refl e
