-- What the program writes, from what a merge leaves.
use Prim.Native.Nat.{ℕ, ◌*◌, ◌<◌, ◌≤◌}
use mathlib.Core.Path.{◌≡◌, refl, sym, ap, ◌∙◌}
use mathlib.Core.List.{List, [], ◌∷◌}
use native.Mathlib.Nat.{not-suc-le-zero}
use native.Mathlib.Omega.{arith}
use lib.ListN.{length, set, take}
use Rattle.std.specs.Prelude.{Ok, Err}
use Rattle.basis.specs.Filled.{filled}
use Rattle.basis.specs.Numbers.{most_carriers}
use Rattle.basis.specs.Order.{answer, refused}
use Rattle.basis.specs.Refusal.{number_of}
use Rattle.basis.specs.declared.Refusal.{Refusal}
use Rattle.merge.specs.Says.{MergeLogsSays}
use Rattle.merge.proofs.Alike.{leaves, its_log, is_refusal}
use Rattle.merge.proofs.Orders.{said}
use Rattle.one_log.specs.Written.{program_order, written}

first_byte : (l : List ℕ) (x : ℕ) → 0 < length l → take 1 (set l 0 x) ≡ x ∷ []
first_byte [] x h = absurd (not-suc-le-zero h)
first_byte (y ∷ l) x h = refl

module _ (one two out after : List ℕ) (room : length out ≡ 16384) where
  -- A merged log.
  module _ (count : ℕ)
      (says : MergeLogsSays most_carriers one two out (filled (Ok count) after)) where
    pub few_bytes : 8 * count ≤ 16384
    few_bytes =
        let w = leaves most_carriers one two out count after says in
        omega (arith, w.few, w.long)

    pub writes_log : take (8 * count) after ≡ written (answer (program_order one two))
    writes_log =
        its_log most_carriers one two out count after says
        ∙ sym
        (ap written (rw room at (leaves most_carriers one two out count after says).answered))

  -- A refusal.
  pub writes_number : (why : Refusal)
      → MergeLogsSays most_carriers one two out (filled (Err why) after)
      → 0 < length after
      → take 1 (set after 0 (number_of why)) ≡ written (answer (program_order one two))
  writes_number why says some =
      let told : said most_carriers (length out) one two ≡ refused (number_of why) =
      is_refusal out after (said most_carriers (length out) one two) (number_of why) (sym says) in
      first_byte after (number_of why) some ∙ sym (ap written (rw room at told))
