-- The whole number nearest to a fraction, and the floats from 2 ^ 52 to below 2 ^ 53, which are the whole numbers.
use mathlib.Core.Bool.{false, not}
use mathlib.Core.Path.{◌∙◌, ◌≡◌, ap, subst, sym}
use Prim.Native.Nat.{Ordering, ◌%◌, ◌*◌, ◌+◌, ◌-◌, ◌/◌, ◌<◌, ◌^◌, ◌≤◌, compare, suc, zero, ℕ}
use native.Mathlib.Nat.{div-add-mod', div-lt_iff_lt-mul, le_antisymm, le-div_iff_mul-le, le_of_eq, le_of_lt}
use native.Mathlib.Nat.{le_of_suc-le-suc, le_trans, lt_of_le_of_lt, lt_of_lt_of_le, lt_of_not-le, mod-lt}
use native.Mathlib.Nat.{mul-le-mul_right, mul-lt-mul_of_pos_right, mul-one, mul-pos, mul_right_comm, not-le_of_lt, suc-mul}
use native.Mathlib.Omega.{arith}
use lib.Arith.{lt_of_le-ne}
use lib.Dec.{T, eqb, eqb_refl, eqb→eq, compare_is_eq, is_le, leb→le, lit<, nleb→lt}
use lib.Ieee.{binary64, nearest, round, size}
use lib.Ieee.Digits.{size-le, size-lt}
use lib.Ieee.Exact.{HasValue}
use lib.Ieee.Nearest.{closest, closest_same}
use lib.Ieee.Scale.{grid, round_val}
use lib.Pow.{pow_mono, pow_pos}
use Rattle.laws.proofs.Values.{rescale}

-- ---- a and b differ by e at most
abbrev pub Near : ℕ → ℕ → ℕ → Type 0
Near a b e = (a ≤ b + e) × (b ≤ a + e)

-- ---- what `compare` says
abbrev Cmp : Ordering → ℕ → ℕ → Type 0
Cmp Ordering.lt a b = a < b
Cmp Ordering.eq a b = a ≡ b
Cmp Ordering.gt a b = b < a

cmp : (a b : ℕ) → Cmp (compare a b) a b
cmp a b = go (compare a b) (leb→le a b) (nleb→lt a b) (eqb→eq a b) (λ (e : a ≡ b). subst (λ (x : ℕ). T (eqb a x)) e (eqb_refl a))
  where
    go : (o : Ordering) → (T (is_le o) → a ≤ b) → (T (not (is_le o)) → b < a) → (T (compare_is_eq o) → a ≡ b) → (a ≡ b → T (compare_is_eq o)) → Cmp o a b
    go Ordering.lt h k e n = lt_of_le-ne (h tt) n
    go Ordering.eq h k e n = e tt
    go Ordering.gt h k e n = k tt

-- w * b + r, with w moved up by one where r is a half of b or more
whole_near : (w r b : ℕ) (o : Ordering) → Cmp o (r * 2) b → r < b → Near (nearest w o * b * 2) ((w * b + r) * 2) b
whole_near w r b Ordering.lt h l = (one, two)
  where
    one : w * b * 2 ≤ (w * b + r) * 2 + b
    one = omega arith

    two : (w * b + r) * 2 ≤ w * b * 2 + b
    two = omega arith
whole_near w r b Ordering.eq h l = go (w % 2) (two_of w)
  where
    two_of : (w : ℕ) → w % 2 ≤ 1
    two_of w = omega arith

    go : (i : ℕ) → i ≤ 1 → Near ((w + i) * b * 2) ((w * b + r) * 2) b
    go zero i1 = (omega arith, omega arith)
    go (suc zero) i1 = (omega arith, omega arith)
    go (suc (suc i)) i1 = absurd (no i i1)
      where
        no : (i : ℕ) → suc (suc i) ≤ 1 → ⊥
        no i h = omega arith
whole_near w r b Ordering.gt h l = (one, two)
  where
    one : suc w * b * 2 ≤ (w * b + r) * 2 + b
    one = omega arith

    two : (w * b + r) * 2 ≤ suc w * b * 2 + b
    two = omega arith

-- the nearest whole number to a / b is within a half
closest_near : (a b : ℕ) → 0 < b → Near (closest a b * b * 2) (a * 2) b
closest_near a b B =
    subst (λ (z : ℕ). Near (closest a b * b * 2) (z * 2) b) (div-add-mod' a b)
    (whole_near (a / b) (a % b) b (compare (a % b * 2) b) (cmp (a % b * 2) b) (mod-lt a B))

-- ---- the whole number N nearest to a / c lies where a / c does
pub near_most : (N K a c : ℕ) → 0 < c → a ≤ K * c → N * c * 2 ≤ a * 2 + c → N ≤ K
near_most N K a c C h k =
    le_of_suc-le-suc (lt_of_not-le (λ (g : suc K ≤ N). bad (N * c) (K * c) (le_trans (le_of_eq (sym (suc-mul K c))) (mul-le-mul_right c g)) h k))
  where
    bad : (x y : ℕ) → y + c ≤ x → a ≤ y → x * 2 ≤ a * 2 + c → ⊥
    bad x y g h k = omega arith

pub near_least : (N K a c : ℕ) → 0 < c → K * c ≤ a → a * 2 ≤ N * c * 2 + c → K ≤ N
near_least N K a c C h k =
    le_of_suc-le-suc (lt_of_not-le (λ (g : suc N ≤ K). bad (N * c) (K * c) (le_trans (le_of_eq (sym (suc-mul N c))) (mul-le-mul_right c g)) h k))
  where
    bad : (x y : ℕ) → x + c ≤ y → y ≤ a → a * 2 ≤ x * 2 + c → ⊥
    bad x y g h k = omega arith

-- ---- a fraction from 2 ^ 52 to below 2 ^ 53 is rounded to the nearest whole number
size_at : (n j : ℕ) → 2 ^ j ≤ n → n < 2 ^ suc j → size n ≡ suc j
size_at n j h k = le_antisymm (size-le n (suc j) k) (lt_of_not-le (λ (g : size n ≤ j). not-le_of_lt (size-lt n) (le_trans (pow_mono g) h)))

scale_le : (p u c a : ℕ) → p * c ≤ a → p * u * c ≤ a * u
scale_le p u c a h = le_trans (le_of_eq (mul_right_comm p u c)) (mul-le-mul_right u h)

scale_lt : (p u c a : ℕ) → 0 < u → a < p * c → a * u < p * u * c
scale_lt p u c a U h = lt_of_lt_of_le (mul-lt-mul_of_pos_right h U) (le_of_eq (mul_right_comm p c u))

size_mid : (a c : ℕ) → 0 < c → 4503599627370496 * c ≤ a → a < 9007199254740992 * c → size (a * 2 ^ 1074 / c) ≡ 1127
size_mid a c C h k = size_at (a * 2 ^ 1074 / c) 1126 ((le-div_iff_mul-le C).1 (scale_le 4503599627370496 (2 ^ 1074) c a h))
    ((div-lt_iff_lt-mul C).1 (scale_lt 9007199254740992 (2 ^ 1074) c a (pow_pos 1074) k))

grid_mid : (a c : ℕ) → 0 < c → 4503599627370496 * c ≤ a → a < 9007199254740992 * c → grid binary64 a c ≡ closest a c * 2 ^ 1074
grid_mid a c C h k =
    ap (λ (z : ℕ). closest (a * 2 ^ 1074) (c * 2 ^ (z - 53)) * 2 ^ (z - 53)) (size_mid a c C h k)
    ∙ ap (λ (z : ℕ). z * 2 ^ 1074) (closest_same (a * 2 ^ 1074) (c * 2 ^ 1074) a c (mul-pos C (pow_pos 1074)) C (turn a (2 ^ 1074) c))
  where
    turn : (a u c : ℕ) → a * u * c ≡ a * (c * u)
    turn a u c = omega arith

pub whole_round : (a c : ℕ) → 0 < c → 4503599627370496 * c ≤ a → a < 9007199254740992 * c
    → (N : ℕ) × HasValue (round binary64 false a c) false N 1 × Near (N * c * 2) (a * 2) c × (N ≤ 9007199254740992)
whole_round a c C h k =
    let n = closest_near a c C in
    let q = near_most (closest a c) 9007199254740992 a c C (le_of_lt k) n.0 in
    let e = grid_mid a c C h k in (
      closest a c,
      rescale (round binary64 false a c) false (closest a c * 2 ^ 1074) (2 ^ 1074) (closest a c) 1 (pow_pos 1074) (sym (mul-one (closest a c * 2 ^ 1074)))
          (subst (λ (z : ℕ). HasValue (round binary64 false a c) false z (2 ^ 1074)) e
          (round_val binary64 a c (subst (λ (z : ℕ). z < 2 ^ 2098) (sym e) (lt_of_le_of_lt (mul-le-mul_right (2 ^ 1074) q) (lit< tt))))),
      n,
      q,
    )
