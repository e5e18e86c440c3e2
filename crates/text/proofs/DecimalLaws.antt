-- A number's decimal text by its last digit, and what it says.
use mathlib.Core.Bool.{Bool, true, false}
use mathlib.Core.List.{List, [], ◌∷◌, ◌++◌}
use mathlib.Core.Path.{◌≡◌, refl, sym, ap, ◌∙◌}
use Prim.Native.Nat.{ℕ, zero, suc, ◌+◌, ◌-◌, ◌*◌, ◌/◌, ◌%◌, ◌≤◌, ◌<◌}
use native.Mathlib.Nat.{pow-succ'}
use native.Mathlib.Omega.{arith}
use lib.Dec.{ltb}
use lib.ListN.{length, get_or, get_or-append, length-append}
use lib.Seq.{get_or-append_seam}
use borrow.Author.Tests.{lt-ltb, le-ltb, ltb-true, ltb-false}
use Rattle.text.specs.Decimal.{decimal_from, decimal_text, value_from, value_of}
use Rattle.text.specs.Hex.{glyph}
use Rattle.text.specs.Promises.{DecimalRead, DecimalDigits, DecimalFirst, DecimalShort}

from_small : (k n : ℕ) → n < 10 → decimal_from k n ≡ glyph n ∷ []
unfolding decimal_from
from_small zero n h = refl
from_small (suc k) n h = simp (lt-ltb n 10 h)

from_large : (k n : ℕ) → 10 ≤ n → decimal_from (suc k) n ≡ decimal_from k (n / 10) ++ (glyph (n % 10) ∷ [])
unfolding decimal_from
from_large k n h = simp (le-ltb n 10 h)

-- how many digits are allowed doesn't matter once they are enough
enough_by : (k j n : ℕ) (b : Bool) → ltb n 10 ≡ b → decimal_from k (n / 10) ≡ decimal_from j (n / 10) → decimal_from (suc k) n ≡ decimal_from (suc j) n
enough_by k j n true e r = let l = ltb-true n 10 e in from_small (suc k) n l ∙ sym (from_small (suc j) n l)
enough_by k j n false e r =
    let l = ltb-false n 10 e in
    from_large k n l ∙ ap (λ (t : List ℕ). t ++ (glyph (n % 10) ∷ [])) r ∙ sym (from_large j n l)

enough : (k j n : ℕ) → n ≤ k → n ≤ j → decimal_from k n ≡ decimal_from j n
enough zero j n h g = from_small zero n (omega arith) ∙ sym (from_small j n (omega arith))
enough (suc k) zero n h g = from_small (suc k) n (omega arith) ∙ sym (from_small zero n (omega arith))
enough (suc k) (suc j) n h g = enough_by k j n (ltb n 10) refl (enough k j (n / 10) (omega arith) (omega arith))

-- ---- a text by its last digit
pub decimal_small : (n : ℕ) → n < 10 → decimal_text n ≡ glyph n ∷ []
unfolding decimal_text
decimal_small n h = from_small n n h

pub decimal_large : (n : ℕ) → 10 ≤ n → decimal_text n ≡ decimal_text (n / 10) ++ (glyph (n % 10) ∷ [])
unfolding decimal_text
decimal_large n h = more n h
  where
    more : (n : ℕ) → 10 ≤ n → decimal_from n n ≡ decimal_from (n / 10) (n / 10) ++ (glyph (n % 10) ∷ [])
    more zero h = elim (none h) [ ]
      where
        none : 10 ≤ 0 → ⊥
        none h = omega arith
    more (suc m) h =
        from_large m (suc m) h ∙ ap (λ (t : List ℕ). t ++ (glyph (suc m % 10) ∷ [])) (enough m (suc m / 10) (suc m / 10) (omega arith) (omega arith))

-- ---- what holds of one digit, and of a text with one more digit, holds of every number's text
module _ (P : ℕ → List ℕ → Type 0) (one : (n : ℕ) → n < 10 → P n (glyph n ∷ []))
    (more : (n : ℕ) (t : List ℕ) → 10 ≤ n → P (n / 10) t → P n (t ++ (glyph (n % 10) ∷ []))) where
  by : (k n : ℕ) (b : Bool) → ltb n 10 ≡ b → P (n / 10) (decimal_from k (n / 10)) → P n (decimal_from (suc k) n)
  by k n true e r = let l = ltb-true n 10 e in rw (from_small (suc k) n l) (one n l)
  by k n false e r = let l = ltb-false n 10 e in rw (from_large k n l) (more n (decimal_from k (n / 10)) l r)

  each : (k n : ℕ) → n ≤ k → P n (decimal_from k n)
  each zero n h = let l : n < 10 = omega arith in rw (from_small zero n l) (one n l)
  each (suc k) n h = by k n (ltb n 10) refl (each k (n / 10) (omega arith))

  pub every : (n : ℕ) → P n (decimal_text n)
  unfolding decimal_text
  every n = each n n (omega arith)

pub glyph_small : (d : ℕ) → d < 10 → glyph d ≡ 48 + d
unfolding glyph
glyph_small d h = simp (lt-ltb d 10 h)

value_last : (a : ℕ) (t : List ℕ) (b : ℕ) → value_from a (t ++ (b ∷ [])) ≡ value_from a t * 10 + (b - 48)
unfolding value_from
value_last a [] b = refl
value_last a (x ∷ t) b = value_last (a * 10 + (x - 48)) t b

read_one : (n : ℕ) → n < 10 → value_of (glyph n ∷ []) ≡ n
unfolding value_of value_from
read_one n h = omega (arith, glyph_small n h)

read_more : (n : ℕ) (t : List ℕ) → 10 ≤ n → value_of t ≡ n / 10 → value_of (t ++ (glyph (n % 10) ∷ [])) ≡ n
unfolding value_of
read_more n t h e = value_last 0 t (glyph (n % 10)) ∙ omega (arith, glyph_small (n % 10) (omega arith))

pub decimal_read : DecimalRead
decimal_read = every (λ n t. value_of t ≡ n) read_one read_more

-- ---- digits
Digits : List ℕ → Type 0
Digits t = (k : ℕ) → k < length t → (48 ≤ get_or t k 0) × (get_or t k 0 ≤ 57)

one_digit : (n : ℕ) → n < 10 → Digits (glyph n ∷ [])
unfolding Digits
one_digit n h zero l = omega (arith, glyph_small n h)
one_digit n h (suc k) l = elim (none l) [ ]
  where
    none : {k : ℕ} → suc k < 1 → ⊥
    none l = omega arith

-- a text with a digit at its end: at k stands what stood there, or the digit
last_by : (t : List ℕ) (b k : ℕ) (x : Bool) → ltb k (length t) ≡ x → k < length (t ++ (b ∷ [])) → 48 ≤ b → b ≤ 57 → Digits t
    → (48 ≤ get_or (t ++ (b ∷ [])) k 0) × (get_or (t ++ (b ∷ [])) k 0 ≤ 57)
unfolding Digits
last_by t b k true e l lo hi d = let h = ltb-true k (length t) e in rw (get_or-append t (b ∷ []) 0 k h) (d k h)
last_by t b k false e l lo hi d =
    let h = ltb-false k (length t) e in
    let n : k ≡ length t = omega (arith, length-append t (b ∷ [])) in
    rw (n, get_or-append_seam t b [] 0) (lo, hi)

more_digits : (n : ℕ) (t : List ℕ) → 10 ≤ n → Digits t → Digits (t ++ (glyph (n % 10) ∷ []))
unfolding Digits
more_digits n t h d k l =
    let g = glyph_small (n % 10) (omega arith) in
    last_by t (glyph (n % 10)) k (ltb k (length t)) refl l (omega arith) (omega arith) d

pub decimal_digits : DecimalDigits
unfolding Digits
decimal_digits n k h = every (λ n t. Digits t) one_digit more_digits n k h

-- ---- the first digit
First : ℕ → List ℕ → Type 0
First n t = (0 < length t) × (get_or t 0 0 ≡ 48 → n ≡ 0)

first_one : (n : ℕ) → n < 10 → First n (glyph n ∷ [])
unfolding First
first_one n h = (omega arith, λ e. omega (arith, glyph_small n h))

first_more : (n : ℕ) (t : List ℕ) → 10 ≤ n → First (n / 10) t → First n (t ++ (glyph (n % 10) ∷ []))
unfolding First
first_more n t h (l, f) =
    (omega (arith, length-append t (glyph (n % 10) ∷ [])), λ e. omega (arith, f (sym (get_or-append t (glyph (n % 10) ∷ []) 0 0 l) ∙ e)))

pub decimal_first : DecimalFirst
unfolding First
decimal_first n = (every First first_one first_more n).1

-- ---- how many digits
digits_by : (d n : ℕ) (b : Bool) → ltb n 10 ≡ b → (10 ≤ n → length (decimal_text (n / 10)) ≤ d) → length (decimal_text n) ≤ suc d
digits_by d n true e r = rw (decimal_small n (ltb-true n 10 e)) (omega arith)
digits_by d n false e r =
    let l = ltb-false n 10 e in
    let m = r l in
    rw (decimal_large n l) (omega (arith, length-append (decimal_text (n / 10)) (glyph (n % 10) ∷ [])))

pub decimal_short : DecimalShort
decimal_short zero n h = rw (decimal_small n h) (omega arith)
decimal_short (suc k) n h =
    let p = pow-succ' 10 (suc k) in
    digits_by (suc k) n (ltb n 10) refl (λ l. decimal_short k (n / 10) (omega arith))
