-- The ways through the functions that read and write one record.
use Prim.Native.Nat.{ℕ}
use mathlib.Core.Path.{◌≡◌, refl, sym, ◌∙◌}
use mathlib.Core.List.{List, [], ◌∷◌}
use lib.ListN.{length}
use borrow.Author.Tests.{eq-eqb, ne_eqb}
use Rattle.basis.specs.Numbers.{ROOM, most_carriers}
use Rattle.basis.specs.Order.{Answer, answer, refused, accepted}
use Rattle.basis.proofs.Order.{passes, fails, gives, apart, stops, goes_on}
use Rattle.record.specs.Answers.{written}
use Rattle.record.specs.Bytes.{bytes_of, read_order, write_order}
use Rattle.record.specs.declared.bytes.Record.{Record}
use Rattle.station.specs.Face.{read_record_face, write_record_face}

module _ (bytes out : List ℕ) where
  pub read_refused : {number : ℕ} → answer (read_order most_carriers bytes) ≡ refused number
      → answer (read_record_face bytes out) ≡ refused number
  unfolding read_record_face
  read_refused e = stops _ _ e

  module _ {r : Record} (e : answer (read_order most_carriers bytes) ≡ accepted r) where
    pub read_no_room : (length out ≡ 3 → ⊥) → answer (read_record_face bytes out) ≡ refused ROOM
    unfolding read_record_face
    read_no_room h = goes_on _ _ e ∙ fails _ _ (ne_eqb _ _ h)

    pub read_given : length out ≡ 3
        → answer (read_record_face bytes out)
        ≡ accepted (r.step ∷ r.carrier ∷ r.lever ∷ [])
    unfolding read_record_face
    read_given h = goes_on _ _ e ∙ passes _ _ (eq-eqb _ _ h) ∙ gives _

module _ (step carrier lever : ℕ) (out : List ℕ) where
  module _ {r : Record} (e : answer (write_order step carrier lever) ≡ accepted r) where
    pub not_eight : (length out ≡ 8 → ⊥)
        → answer (write_record_face step carrier lever out) ≡ refused ROOM
    unfolding write_record_face
    not_eight h = goes_on _ _ e ∙ fails _ _ (ne_eqb _ _ h)

    eight : length out ≡ 8
        → answer (write_record_face step carrier lever out) ≡ accepted (bytes_of r)
    unfolding write_record_face
    eight h = goes_on _ _ e ∙ passes _ _ (eq-eqb _ _ h) ∙ gives _

  pub write_refused : {number : ℕ}
      → refused number ≡ written (answer (write_order step carrier lever))
      → answer (write_record_face step carrier lever out) ≡ refused number
  unfolding write_record_face
  write_refused {number} q = go (answer (write_order step carrier lever)) refl q
    where
      go : (a : Answer Record) → answer (write_order step carrier lever) ≡ a
          → refused number ≡ written a
          → answer (write_record_face step carrier lever out) ≡ refused number
      go (refused n) p q = stops _ _ p ∙ cc
      go (accepted r) p q = apart q

  module _ {bytes : List ℕ} (e : accepted bytes ≡ written (answer (write_order step carrier lever)))
    where
      -- What was answered, where bytes are.
      from_record : (P : List ℕ → Type 0)
          → ((r : Record) → answer (write_order step carrier lever) ≡ accepted r → P (bytes_of r))
          → P bytes
      from_record P use-it = go (answer (write_order step carrier lever)) refl e
        where
          go : (a : Answer Record) → answer (write_order step carrier lever) ≡ a
              → accepted bytes ≡ written a → P bytes
          go (refused n) p q = apart (sym q)
          go (accepted r) p q =
              let same : bytes ≡ bytes_of r = cc in
              rw same (use-it r p)

      pub write_no_room : (length out ≡ 8 → ⊥)
          → answer (write_record_face step carrier lever out) ≡ refused ROOM
      write_no_room h =
          from_record (λ b. answer (write_record_face step carrier lever out) ≡ refused ROOM)
          (λ r p. not_eight p h)

      pub write_given : length out ≡ 8
          → answer (write_record_face step carrier lever out) ≡ accepted bytes
      write_given h =
          from_record (λ b. answer (write_record_face step carrier lever out) ≡ accepted b)
          (λ r p. eight p h)
