-- `wuthracomb_merge`, number by number.
use Prim.Native.Nat.{ℕ}
use mathlib.Core.Path.{◌≡◌, refl, ap}
use mathlib.Core.Logic.{inl}
use mathlib.Core.List.{List, [], ◌∷◌}
use lib.ListN.{length}
use Rattle.basis.specs.LittleEndian.{Bytes}
use Rattle.basis.specs.Order.{Answer, refused, accepted}
use Rattle.record.specs.Buffer.{buffer_of}
use Rattle.record.specs.declared.bytes.Record.{Record}
use Rattle.record.proofs.Rules.{log_valid}
use Rattle.merge.specs.Calls.{merge_order}
use Rattle.merge.specs.Merge.{both_of}
use Rattle.merge.proofs.Fine.{fine_log}
use Rattle.merge.proofs.Holds.{differ_iff}
use Rattle.merge.proofs.Ways.{says_few}
use Rattle.station.specs.Face.{merge_face}
use Rattle.station.specs.Left.{Counted, counted, leaves_merged}
use Rattle.station.specs.Says.{MergeSays}
use Rattle.face.specs.Merge.{merge_numbers, OneLog}
use Rattle.face.specs.Table.{Answers}
use Rattle.face.proofs.Numbers.{all_done}
use Rattle.face.proofs.Rungs.{By, told, rung, passed, end, answers_by, else_fact, else_le}
use Rattle.face.proofs.Rungs.{else_eq}

module _ (b : ℕ) (one two out count : List ℕ) (c : Bytes one) (d : Bytes two) where
  by_table : By 2 all_done (λ l. l ≡ both_of one two) (merge_face b one two out count)
      (merge_numbers b one two out count)
  unfolding merge_face merge_order
  by_table =
      rung refl (else_fact _ (says_few b))
      (λ few. rung refl (else_eq (length count) 1)
      (λ word. passed few
      (rung refl (else_eq (length out) 16384)
      (λ long. rung refl (else_fact _ (log_valid b one))
      (λ first. rung refl (else_fact _ (log_valid b two))
      (λ second. rung refl
      (differ_iff ((says_few b).0 few).1 (fine_log b one c first) (fine_log b two d second))
      (λ agreed. rung refl (else_le (length (both_of one two)) 2048)
      (λ room. end refl refl))))))))

  numbered : (a : Answer (List Record)) → (leaves_merged out count a).number ≡ told all_done a
  numbered (refused n) = refl
  numbered (accepted l) = refl

  merge : (left : Counted) → MergeSays b one two out count left
      → Answers 2 (merge_numbers b one two out count) left.number left
      (counted left.number out count)
      (counted 255 (buffer_of (both_of one two)) (length (both_of one two) ∷ []))
  merge left says =
      answers_by {Right = λ l. l ≡ both_of one two} (λ o. o.number) all_done
      (leaves_merged out count) (λ n. counted n out count)
      (counted 255 (buffer_of (both_of one two)) (length (both_of one two) ∷ [])) numbered
      (λ n. refl) (λ l e. inl (ap (λ x. counted 255 (buffer_of x) (length x ∷ [])) e))
      (merge_face b one two out count) left says by_table

pub one_log : OneLog
one_log = record { merge = λ b one two out count left c d. merge b one two out count c d left }
