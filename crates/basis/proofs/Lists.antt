-- Laws of lists that the kit's library lacks, over any element type.
use Prim.Native.Nat.{ℕ, zero, suc, ◌+◌, ◌-◌, ◌<◌, ◌≤◌}
use mathlib.Core.Path.{◌≡◌, sym, ap, ◌∙◌}
use mathlib.Core.List.{List, [], ◌∷◌, ◌++◌, append-nil}
use native.Mathlib.Nat.{zero-add, suc-add, sub-zero}
use native.Mathlib.Nat.{zero-sub, suc-sub-suc}
use lib.ListN.{length, take, drop, replicate, get_or, set, length-append, length-drop}
use lib.ListN.{drop_of_length-le, get_or-append}
use lib.Seq.{length-take-le, take-nil, take_all, get_or-take, get_or-drop, paste}
use lib.Seq.{paste-zero, paste-suc, drop-paste, append_snoc, get_or-append_seam, get_or-append-add}
use lib.Seq.{length_paste_head}
use native.Mathlib.Omega.{arith}

module _ {A : Type 0} where
  pub drop_replicate : (m n : ℕ) (a : A) → drop m (replicate n a) ≡ replicate (n - m) a
  drop_replicate zero n a = rw sub-zero
  drop_replicate (suc m) zero a = rw zero-sub
  drop_replicate (suc m) (suc n) a = rw suc-sub-suc (drop_replicate m n a)

  -- The end of a front is the front of the end.
  pub drop_take : (n m : ℕ) (l : List A) → drop n (take (n + m) l) ≡ take m (drop n l)
  drop_take zero m l = rw zero-add
  drop_take (suc n) m [] = ap (drop (suc n)) (take-nil (suc n + m)) ∙ sym (take-nil m)
  drop_take (suc n) m (a ∷ l) = rw suc-add (drop_take n m l)

  -- A part is as long as it says.
  pub length_part : (n at : ℕ) (l : List A) → at + n ≤ length l → length (take n (drop at l)) ≡ n
  length_part n at l h = length-take-le n (drop at l) (rw length-drop (omega arith))

  -- An element of a part, where it lies in the whole.
  pub part_at : (n at k : ℕ) (l : List A) (z : A) → k < n
      → get_or (take n (drop at l)) k z ≡ get_or l (at + k) z
  part_at n at k l z h = get_or-take n (drop at l) k z h ∙ get_or-drop at l k z

  -- What a copy has reached, and what stands before it and after it.
  module _ (d : List A) (at : ℕ) (s : List A) (n : ℕ) (z : A) (room : at + n ≤ length d)
      (long : n ≤ length s) where
    head_length : length (take at d ++ take n s) ≡ at + n
    head_length = length_paste_head d at s n (omega arith) long

    pub paste_at : (k : ℕ) → k < n → get_or (paste d at s n) (at + k) z ≡ get_or s k z
    paste_at k h =
        let front : length (take at d) ≡ at = length-take-le at d (omega arith) in
        get_or-append (take at d ++ take n s) (drop (at + n) d) z (at + k)
        (omega (arith, head_length))
        ∙ rw front at (get_or-append-add (take at d) (take n s) k z)
        ∙ get_or-take n s k z h

    pub paste_before : (j : ℕ) → j < at → get_or (paste d at s n) j z ≡ get_or d j z
    paste_before j h =
        let front : length (take at d) ≡ at = length-take-le at d (omega arith) in
        get_or-append (take at d ++ take n s) (drop (at + n) d) z j (omega (arith, head_length))
        ∙ get_or-append (take at d) (take n s) z j (omega arith)
        ∙ get_or-take at d j z h

    pub paste_after : (j : ℕ) → at + n ≤ j → get_or (paste d at s n) j z ≡ get_or d j z
    paste_after j h =
        let on : at + n + (j - (at + n)) ≡ j = omega arith in
        rw on at
        (sym (get_or-drop (at + n) (paste d at s n) (j - (at + n)) z)
        ∙ ap (λ (x : List A). get_or x (j - (at + n)) z) (drop-paste d at s n (omega arith) long)
        ∙ get_or-drop (at + n) d (j - (at + n)) z)

  -- A copy of all elements, over a list of that length.
  pub paste_all : (d s : List A) (n : ℕ) → length d ≡ n → length s ≡ n → paste d 0 s n ≡ s
  paste_all d s n e q =
      let room : length d ≤ 0 + n = omega arith in
      let whole : length s ≤ n = omega arith in
      rw (drop_of_length-le d room, take_all n s whole) (append-nil s)

  -- A copy from the front goes one element on.
  pub paste_front : (d s : List A) (k : ℕ) (z : A) → k < length d → k < length s
      → set (paste d 0 s k) k (get_or s k z) ≡ paste d 0 s (suc k)
  paste_front d s k z h q =
      ap (λ (i : ℕ). set (paste d 0 s k) i (get_or s k z)) (sym (zero-add k))
      ∙ paste-suc d 0 s k z (rw zero-add h) q

  -- Elements stored one after the other, from `at + k` on, are a copy of the list of them.
  abbrev pub stored : List A → ℕ → ℕ → List A → List A
  stored d at k [] = d
  stored d at k (a ∷ s) = stored (set d (at + k) a) at (suc k) s

  stored_on : (d : List A) (at : ℕ) (p s : List A) → at + length (p ++ s) ≤ length d
      → stored (paste d at (p ++ s) (length p)) at (length p) s
      ≡ paste d at (p ++ s) (length (p ++ s))
  stored_on d at p [] h = ap (λ (n : ℕ). paste d at (p ++ []) n) (ap length (sym (append-nil p)))
  stored_on d at p (a ∷ s) h =
      let long : length (p ++ (a ∷ s)) ≡ length p + suc (length s) = length-append p (a ∷ s) in
      let next : length (p ++ (a ∷ [])) ≡ suc (length p) =
      omega (arith, length-append p (a ∷ [])) in
      let here : get_or (p ++ (a ∷ s)) (length p) a ≡ a = get_or-append_seam p a s a in
      let one : set (paste d at (p ++ (a ∷ s)) (length p)) (at + length p) a
      ≡ paste d at (p ++ (a ∷ s)) (suc (length p)) =
      rw here at (paste-suc d at (p ++ (a ∷ s)) (length p) a (omega arith) (omega arith)) in
      rw one
      (rw (append_snoc p a s, next) at (stored_on d at (p ++ (a ∷ [])) s
      (rw (append_snoc p a s) h)))

  pub stored_all : (d : List A) (at : ℕ) (s : List A) → at + length s ≤ length d
      → stored d at 0 s ≡ paste d at s (length s)
  stored_all d at s h =
      ap (λ (x : List A). stored x at 0 s) (paste-zero d at s) ∙ stored_on d at [] s h
