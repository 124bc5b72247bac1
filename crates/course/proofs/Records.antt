-- Logs that climb: the levers held at its places decide a log, and so do its records.
use Prim.Native.Nat.{ℕ, ◌/◌, ◌%◌, ◌<◌}
use mathlib.Core.Path.{◌≡◌, refl, sym, ◌∙◌}
use mathlib.Core.Logic.{◌↔◌}
use mathlib.Core.List.{List, Memᴰ}
use Rattle.std.specs.Prelude.{Option, None, Some}
use native.Mathlib.Omega.{arith}
use Rattle.record.specs.Log.{place}
use Rattle.record.specs.Buffer.{lever_at}
use Rattle.record.specs.declared.bytes.Record.{Record}
use Rattle.record.proofs.Climbs.{Climbs}
use Rattle.record.proofs.Levers.{lever_by, lever_at_by, one_by}
use Rattle.record.proofs.Members.{held_lever, lever_held}

-- Two logs hold the same levers at step t.
abbrev pub SameAt : ℕ → List Record → List Record → Type 0
SameAt t l m = (carrier : ℕ) → lever_at t carrier l ≡ lever_at t carrier m

module _ {low high : ℕ} {l m : List Record} (c : Climbs low l) (d : Climbs high m) where
  -- The levers held decide the log.
  pub one_log : ((t : ℕ) → SameAt t l m) → l ≡ m
  one_log same = one_by c d by
    where
      by : (p : ℕ) → lever_by p l ≡ lever_by p m
      by p =
          let here : place (p / 256) (p % 256) ≡ p = omega arith in
          let byte : p % 256 < 256 = omega arith in
          rw here at
          (sym (lever_at_by (p / 256) (p % 256) c byte)
          ∙ same (p / 256) (p % 256)
          ∙ lever_at_by (p / 256) (p % 256) d byte)

  -- Logs that hold the same records for a step hold the same levers at it.
  pub same_at : (t : ℕ) → ((r : Record) → r.step ≡ t → Memᴰ r l ↔ Memᴰ r m)
      → SameAt t l m
  same_at t same carrier = go (lever_at t carrier l) (lever_at t carrier m) refl refl
    where
      go : (x y : Option ℕ) → lever_at t carrier l ≡ x → lever_at t carrier m ≡ y → x ≡ y
      go None None p q = refl
      go (Some lever) y p q = sym (held_lever d ((same _ refl).0 (lever_held l p))) ∙ q
      go None (Some lever) p q = sym p ∙ held_lever c ((same _ refl).1 (lever_held m q))

  -- So the records held decide the log.
  pub same_log : ((r : Record) → Memᴰ r l ↔ Memᴰ r m) → l ≡ m
  same_log same = one_log (λ t. same_at t (λ r e. same r))
