-- Equations of sums, differences and products of whole numbers, solved by computing: a ring solver
-- by reflection. An expression over a list of values becomes a polynomial, and two expressions are
-- equal where the polynomial of their difference has no coefficient but 0.
--   solve (x ∷ y ∷ []) ((# 0 ⊕ # 1) ⊗ (# 0 ⊖ # 1)) (# 0 ⊗ # 0 ⊖ # 1 ⊗ # 1) refl
--   : (x +ℤ y) *ℤ (x -ℤ y) ≡ x *ℤ x -ℤ y *ℤ y
-- Sections: the laws that lib.IntN leaves out; lists of coefficients; polynomials; expressions.
use mathlib.Core.Path.{◌≡◌, refl, sym, ap, ◌∙◌}
use mathlib.Core.Bool.{Bool, true, false, ◌&&◌}
use mathlib.Core.List.{List, [], ◌∷◌}
use Prim.Native.Nat.{ℕ, zero, suc, ◌*◌}
use lib.IntN.{ℤ, pos, negsuc, neg_ℤ, suc_ℤ, pred_ℤ, one, ◌+ℤ◌, ◌-ℤ◌, ◌*ℤ◌}
use lib.IntN.{suc_ℤ-+ℤ, pred_ℤ-+ℤ, +ℤ_idl, +ℤ_idr, +ℤ_assoc, +ℤ_comm, neg_ℤ-neg_ℤ, -ℤ-+ℤ_cancel}
use lib.IntN.{zero-*ℤ, *ℤ-zero, *ℤ-one, suc_ℤ-*ℤ, pred_ℤ-*ℤ, *ℤ_comm}
use Rattle.basis.proofs.Tests.{never, and_left, and_right}

swap : (a b c : ℤ) → (a +ℤ b) +ℤ c ≡ (a +ℤ c) +ℤ b
swap a b c = +ℤ_assoc a b c ∙ ap (λ z. a +ℤ z) (+ℤ_comm b c) ∙ sym (+ℤ_assoc a c b)

cross : (a b c d : ℤ) → (a +ℤ b) +ℤ (c +ℤ d) ≡ (a +ℤ c) +ℤ (b +ℤ d)
cross a b c d =
    sym (+ℤ_assoc (a +ℤ b) c d) ∙ ap (λ z. z +ℤ d) (swap a b c) ∙ +ℤ_assoc (a +ℤ c) b d

-- A law of every m follows from 0, one up and one down.
climb : (P : ℤ → Type 0) → P (pos 0) → ((m : ℤ) → P m → P (suc_ℤ m))
    → ((m : ℤ) → P m → P (pred_ℤ m)) → (m : ℤ) → P m
climb P start up down (pos zero) = start
climb P start up down (pos (suc n)) = up (pos n) (climb P start up down (pos n))
climb P start up down (negsuc zero) = down (pos 0) start
climb P start up down (negsuc (suc n)) = down (negsuc n) (climb P start up down (negsuc n))

pub dist_right : (m k j : ℤ) → (m +ℤ k) *ℤ j ≡ m *ℤ j +ℤ k *ℤ j
dist_right m k j = climb (λ m. (m +ℤ k) *ℤ j ≡ m *ℤ j +ℤ k *ℤ j) start up down m
  where
    start : (pos 0 +ℤ k) *ℤ j ≡ pos 0 *ℤ j +ℤ k *ℤ j
    start = rw (+ℤ_idl k, zero-*ℤ j) (sym (+ℤ_idl (k *ℤ j)))

    up : (m : ℤ) → (m +ℤ k) *ℤ j ≡ m *ℤ j +ℤ k *ℤ j
        → (suc_ℤ m +ℤ k) *ℤ j ≡ suc_ℤ m *ℤ j +ℤ k *ℤ j
    up m h =
        rw (suc_ℤ-+ℤ m k, suc_ℤ-*ℤ (m +ℤ k) j, h, suc_ℤ-*ℤ m j) (swap (m *ℤ j) (k *ℤ j) j)

    down : (m : ℤ) → (m +ℤ k) *ℤ j ≡ m *ℤ j +ℤ k *ℤ j
        → (pred_ℤ m +ℤ k) *ℤ j ≡ pred_ℤ m *ℤ j +ℤ k *ℤ j
    down m h =
        rw (pred_ℤ-+ℤ m k, pred_ℤ-*ℤ (m +ℤ k) j, h, pred_ℤ-*ℤ m j)
        (swap (m *ℤ j) (k *ℤ j) (neg_ℤ j))

pub dist_left : (j m k : ℤ) → j *ℤ (m +ℤ k) ≡ j *ℤ m +ℤ j *ℤ k
dist_left j m k = rw (*ℤ_comm j (m +ℤ k), *ℤ_comm j m, *ℤ_comm j k) (dist_right m k j)

pub neg_times : (m k : ℤ) → neg_ℤ m *ℤ k ≡ neg_ℤ (m *ℤ k)
neg_times (pos zero) k = zero-*ℤ k ∙ sym (ap neg_ℤ (zero-*ℤ k))
neg_times (pos (suc a)) (pos b) = refl
neg_times (pos (suc a)) (negsuc b) = sym (neg_ℤ-neg_ℤ (pos (suc a * suc b)))
neg_times (negsuc a) (pos b) = sym (neg_ℤ-neg_ℤ (pos (suc a) *ℤ pos b))
neg_times (negsuc a) (negsuc b) = refl

pub times_assoc : (m k j : ℤ) → (m *ℤ k) *ℤ j ≡ m *ℤ (k *ℤ j)
times_assoc m k j = climb (λ m. (m *ℤ k) *ℤ j ≡ m *ℤ (k *ℤ j)) start up down m
  where
    start : (pos 0 *ℤ k) *ℤ j ≡ pos 0 *ℤ (k *ℤ j)
    start = rw (zero-*ℤ k, zero-*ℤ j, zero-*ℤ (k *ℤ j))

    up : (m : ℤ) → (m *ℤ k) *ℤ j ≡ m *ℤ (k *ℤ j) → (suc_ℤ m *ℤ k) *ℤ j ≡ suc_ℤ m *ℤ (k *ℤ j)
    up m h = rw (suc_ℤ-*ℤ m k, dist_right (m *ℤ k) k j, h, suc_ℤ-*ℤ m (k *ℤ j))

    down : (m : ℤ) → (m *ℤ k) *ℤ j ≡ m *ℤ (k *ℤ j) → (pred_ℤ m *ℤ k) *ℤ j ≡ pred_ℤ m *ℤ (k *ℤ j)
    down m h =
        rw (pred_ℤ-*ℤ m k, dist_right (m *ℤ k) (neg_ℤ k) j, h, neg_times k j, pred_ℤ-*ℤ m (k *ℤ j))

times_swap : (x y z : ℤ) → x *ℤ (y *ℤ z) ≡ y *ℤ (x *ℤ z)
times_swap x y z = sym (times_assoc x y z) ∙ ap (λ w. w *ℤ z) (*ℤ_comm x y) ∙ times_assoc y x z

times_one : (x : ℤ) → x *ℤ pos 1 ≡ x
unfolding one
times_one x = *ℤ-one x

minus_one : (z : ℤ) → negsuc 0 *ℤ z ≡ neg_ℤ z
minus_one z = neg_times (pos 1) z ∙ ap neg_ℤ (*ℤ_comm (pos 1) z ∙ times_one z)

-- A difference of 0 is of equals.
pub no_difference : (a b : ℤ) → a -ℤ b ≡ pos 0 → a ≡ b
no_difference a b e = sym (-ℤ-+ℤ_cancel a b) ∙ ap (λ z. z +ℤ b) e ∙ +ℤ_idl b

-- A list of coefficients, the least power first, and its value at x.
abbrev horner : {A : Type 0} → (A → ℤ) → ℤ → List A → ℤ
horner f x [] = pos 0
horner f x (c ∷ cs) = f c +ℤ x *ℤ horner f x cs

abbrev each : {A : Type 0} → (A → A) → List A → List A
each g [] = []
each g (c ∷ cs) = g c ∷ each g cs

abbrev plus : {A : Type 0} → (A → A → A) → List A → List A → List A
plus add [] bs = bs
plus add (a ∷ rest) [] = a ∷ rest
plus add (a ∷ rest) (b ∷ bs) = add a b ∷ plus add rest bs

abbrev times : {A : Type 0} → (A → A → A) → (A → A → A) → A → List A → List A → List A
times add mul nil [] bs = []
times add mul nil (a ∷ rest) bs =
    plus add (each (mul a) bs) (nil ∷ times add mul nil rest bs)

abbrev all : {A : Type 0} → (A → Bool) → List A → Bool
all t [] = true
all t (c ∷ cs) = t c && all t cs

module _ {A : Type 0} (f : A → ℤ) (x : ℤ) where
  -- Coefficients that stand for 0 play no part.
  all_zero : (t : A → Bool) → ((a : A) → t a ≡ true → f a ≡ pos 0) → (cs : List A)
      → all t cs ≡ true → horner f x cs ≡ pos 0
  all_zero t h [] e = refl
  all_zero t h (c ∷ cs) e =
      rw (
        h c (and_left (t c) (all t cs) e),
        all_zero t h cs (and_right (t c) (all t cs) e),
        *ℤ-zero x,
      )

  each_is : (g : A → A) (y : ℤ) → ((a : A) → f (g a) ≡ y *ℤ f a) → (bs : List A)
      → horner f x (each g bs) ≡ y *ℤ horner f x bs
  each_is g y h [] = sym (*ℤ-zero y)
  each_is g y h (b ∷ bs) =
      rw (h b, each_is g y h bs, times_swap x y (horner f x bs))
      (sym (dist_left y (f b) (x *ℤ horner f x bs)))

  module _ (add : A → A → A) (adds : (a b : A) → f (add a b) ≡ f a +ℤ f b) where
    plus_is : (as' bs : List A)
        → horner f x (plus add as' bs) ≡ horner f x as' +ℤ horner f x bs
    plus_is [] bs = sym (+ℤ_idl (horner f x bs))
    plus_is (a ∷ rest) [] = sym (+ℤ_idr (horner f x (a ∷ rest)))
    plus_is (a ∷ rest) (b ∷ bs) =
        rw (adds a b, plus_is rest bs, dist_left x (horner f x rest) (horner f x bs))
        (cross (f a) (f b) (x *ℤ horner f x rest) (x *ℤ horner f x bs))

    module _ (mul : A → A → A) (muls : (a b : A) → f (mul a b) ≡ f a *ℤ f b)
        (nil : A) (none : f nil ≡ pos 0) where
      times_is : (as' bs : List A)
          → horner f x (times add mul nil as' bs) ≡ horner f x as' *ℤ horner f x bs
      times_is [] bs = sym (zero-*ℤ (horner f x bs))
      times_is (a ∷ rest) bs =
          plus_is (each (mul a) bs) (nil ∷ times add mul nil rest bs)
          ∙ rw (
            each_is (mul a) (f a) (muls a) bs,
            none,
            times_is rest bs,
            +ℤ_idl (x *ℤ (horner f x rest *ℤ horner f x bs)),
            dist_right (f a) (x *ℤ horner f x rest) (horner f x bs),
            times_assoc x (horner f x rest) (horner f x bs),
          )

-- A polynomial in the variables whose values are listed: in the first of them, with polynomials in
-- the others as coefficients.
abbrev Poly : List ℤ → Type 0
Poly [] = ℤ
Poly (x ∷ values) = List (Poly values)

abbrev value : (values : List ℤ) → Poly values → ℤ
value [] z = z
value (x ∷ values) cs = horner (value values) x cs

abbrev const : (values : List ℤ) → ℤ → Poly values
const [] z = z
const (x ∷ values) z = const values z ∷ []

abbrev add : (values : List ℤ) → Poly values → Poly values → Poly values
add [] a b = a +ℤ b
add (x ∷ values) a b = plus (add values) a b

abbrev mul : (values : List ℤ) → Poly values → Poly values → Poly values
mul [] a b = a *ℤ b
mul (x ∷ values) a b = times (add values) (mul values) (const values (pos 0)) a b

abbrev at : List ℤ → ℕ → ℤ
at [] i = pos 0
at (x ∷ values) zero = x
at (x ∷ values) (suc i) = at values i

abbrev variable : (values : List ℤ) → ℕ → Poly values
variable [] i = pos 0
variable (x ∷ values) zero = const values (pos 0) ∷ const values (pos 1) ∷ []
variable (x ∷ values) (suc i) = variable values i ∷ []

abbrev is_zero : ℤ → Bool
is_zero (pos zero) = true
is_zero (pos (suc n)) = false
is_zero (negsuc n) = false

abbrev none : (values : List ℤ) → Poly values → Bool
none [] z = is_zero z
none (x ∷ values) cs = all (none values) cs

const_is : (values : List ℤ) (z : ℤ) → value values (const values z) ≡ z
const_is [] z = refl
const_is (x ∷ values) z = rw (*ℤ-zero x, const_is values z) (+ℤ_idr z)

add_is : (values : List ℤ) (a b : Poly values)
    → value values (add values a b) ≡ value values a +ℤ value values b
add_is [] a b = refl
add_is (x ∷ values) a b = plus_is (value values) x (add values) (add_is values) a b

mul_is : (values : List ℤ) (a b : Poly values)
    → value values (mul values a b) ≡ value values a *ℤ value values b
mul_is [] a b = refl
mul_is (x ∷ values) a b =
    times_is (value values) x (add values) (add_is values) (mul values) (mul_is values)
    (const values (pos 0)) (const_is values (pos 0)) a b

variable_is : (values : List ℤ) (i : ℕ) → value values (variable values i) ≡ at values i
variable_is [] i = refl
variable_is (x ∷ values) zero =
    rw (const_is values (pos 0), const_is (x ∷ values) (pos 1), times_one x) (+ℤ_idl x)
variable_is (x ∷ values) (suc i) = rw (*ℤ-zero x, variable_is values i) (+ℤ_idr (at values i))

zero_is : (z : ℤ) → is_zero z ≡ true → z ≡ pos 0
zero_is (pos zero) e = refl
zero_is (pos (suc n)) e = never e refl
zero_is (negsuc n) e = never e refl

none_is : (values : List ℤ) (p : Poly values) → none values p ≡ true → value values p ≡ pos 0
none_is [] p e = zero_is p e
none_is (x ∷ values) p e = all_zero (value values) x (none values) (none_is values) p e

infixl 6 ◌⊕◌
infixl 6 ◌⊖◌
infixl 7 ◌⊗◌
-- An expression: a listed value by its index, a number, or made of two others.
pub data Expression : Type 0 where
  # : ℕ → Expression
  num : ℤ → Expression
  ◌⊕◌ : Expression → Expression → Expression
  ◌⊖◌ : Expression → Expression → Expression
  ◌⊗◌ : Expression → Expression → Expression

abbrev pub means : List ℤ → Expression → ℤ
means values (# i) = at values i
means values (num z) = z
means values (a ⊕ b) = means values a +ℤ means values b
means values (a ⊖ b) = means values a -ℤ means values b
means values (a ⊗ b) = means values a *ℤ means values b

abbrev pub polynomial : (values : List ℤ) → Expression → Poly values
polynomial values (# i) = variable values i
polynomial values (num z) = const values z
polynomial values (a ⊕ b) = add values (polynomial values a) (polynomial values b)
polynomial values (a ⊖ b) =
    add values (polynomial values a) (mul values (const values (negsuc 0)) (polynomial values b))
polynomial values (a ⊗ b) = mul values (polynomial values a) (polynomial values b)

polynomial_is : (values : List ℤ) (e : Expression)
    → value values (polynomial values e) ≡ means values e
polynomial_is values (# i) = variable_is values i
polynomial_is values (num z) = const_is values z
polynomial_is values (a ⊕ b) =
    add_is values (polynomial values a) (polynomial values b)
    ∙ rw (polynomial_is values a, polynomial_is values b)
polynomial_is values (a ⊖ b) =
    add_is values (polynomial values a)
    (mul values (const values (negsuc 0)) (polynomial values b))
    ∙ rw (
      mul_is values (const values (negsuc 0)) (polynomial values b),
      const_is values (negsuc 0),
      polynomial_is values a,
      polynomial_is values b,
      minus_one (means values b),
    )
polynomial_is values (a ⊗ b) =
    mul_is values (polynomial values a) (polynomial values b)
    ∙ rw (polynomial_is values a, polynomial_is values b)

-- Two expressions are equal where their difference computes to 0.
pub solve : (values : List ℤ) (a b : Expression)
    → none values (polynomial values (a ⊖ b)) ≡ true → means values a ≡ means values b
solve values a b e =
    no_difference (means values a) (means values b)
    (sym (polynomial_is values (a ⊖ b)) ∙ none_is values (polynomial values (a ⊖ b)) e)
