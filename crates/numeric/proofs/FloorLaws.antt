-- The floor of a finite number is a whole number, not above it and less than 1 below it. So it is finite, and what is left over it, rounded, lies from 0 to 1.
use Rattle.std.proofs.Common.{◌≡◌, ℕ, zero, suc, ◌+◌, ◌-◌, ◌*◌, ◌/◌, ◌%◌, ◌^◌, ◌<◌, ◌≤◌, Bool, true, false, cond, not, T, eqb, ℤ, pos, negsuc, sym, refl, ap}
use Rattle.std.proofs.Common.{◌∙◌, subst, le_trans, le_of_eq, lt_of_le_of_lt, le_of_lt, mod-lt, zero-lt-suc, div-add-mod', mul-one, div-le_self, arith, lit<}
use Rattle.std.proofs.Common.{pow_pos, eqb-true}
use lib.Ieee.{Float, binary64, down, fin, inf, le, nan, neg, of_bits, of_int, up}
use lib.Ieee.Fits.{down_pos}
use lib.Ieee.Order.{le_of_values}
use borrow.Author.Tests.{eqb-false}
use Rattle.laws.proofs.Monotone.{unit_law}
use Rattle.laws.proofs.Number.{value_finite}
use Rattle.laws.proofs.Values.{fits_small, le_by_minus, neg_value, of_int_val, sub_round, sum_neg_pos, sum_pos_neg}
use Rattle.laws.specs.Float.{F64}
use Rattle.numeric.specs.Floor.{floor_of}
use Rattle.numeric.specs.Promises.{FloorBelow, FloorFinite, FloorRest, FloorWhole, WholeBelow}

mod_one : (n : ℕ) → n % 1 ≡ 0
mod_one n = omega arith

too_big : (m p : ℕ) → m < 9007199254740992 → 0 < p → 4503599627370496 * (2 * p) ≤ m * 1 → ⊥
too_big m p a b c = omega arith

-- a value that fits and is 2 ^ 52 or more has no fraction
pub big_whole : (s : Bool) (m : ℕ) (e : ℤ) → F64 (fin s m e) → 4503599627370496 * down e ≤ m * up e * 1 → m * up e % down e ≡ 0
big_whole s m (pos k) t h = mod_one (m * 2 ^ k)
big_whole s m (negsuc k) t h = absurd
    (too_big m (2 ^ k) (fits_small s m (negsuc k) t) (pow_pos k)
    (le_trans (le_of_eq (ap (λ (z : ℕ). 4503599627370496 * z) (two_suc k))) (le_trans h (le_of_eq (mul-one (m * 1))))))
  where
    two_suc : (k : ℕ) → 2 * 2 ^ k ≡ 2 ^ suc k
    two_suc k = omega arith

-- what is not whole is below 2 ^ 53
part_small : (s : Bool) (m : ℕ) (e : ℤ) → F64 (fin s m e) → T (not (eqb (m * up e % down e) 0)) → m * up e / down e < 2 ^ 53
part_small s m (pos k) t h = absurd (contra (m * 2 ^ k % 1) (mod_one (m * 2 ^ k)) h)
  where
    contra : (r : ℕ) → r ≡ 0 → T (not (eqb r 0)) → ⊥
    contra r e n = subst (λ (z : ℕ). T (not (eqb z 0))) e n
part_small s m (negsuc k) t h = lt_of_le_of_lt (div-le_self (m * 1) (2 ^ suc k)) (subst (λ (z : ℕ). z < 2 ^ 53) (sym (mul-one m)) (fits_small s m (negsuc k) t))

-- ---- the value: n / d with n = q d + r
module _ (n d q r : ℕ) (h : q * d + r ≡ n) where
  at_whole : r ≡ 0 → 0 < d → (n * 1 ≡ q * d) × (q * d ≤ n) × (n < (q + 1) * d) × (n ≤ q * d) × (q * d < n + d)
  at_whole z p = (omega arith, omega arith, omega arith, omega arith, omega arith)

  above_cut : r < d → (q * d ≤ n) × (n < (q + 1) * d)
  above_cut k = (omega arith, omega arith)

  below_next : r < d → 0 < r → (n ≤ suc q * d) × (suc q * d < n + d)
  below_next k p = (omega arith, omega arith)

pub floor_whole : FloorWhole
unfolding floor_of
floor_whole s m e t = go s (eqb r 0) refl (part_small s m e t)
  where
    q : ℕ
    q = m * up e / down e

    r : ℕ
    r = m * up e % down e

    h : q * down e + r ≡ m * up e
    h = div-add-mod' (m * up e) (down e)

    k : r < down e
    k = mod-lt (m * up e) (down_pos e)

    positive : (n : ℕ) → (n ≡ 0 → ⊥) → 0 < n
    positive zero t = absurd (t refl)
    positive (suc n) t = zero-lt-suc n

    go : (s b : Bool) → eqb r 0 ≡ b → (T (not b) → q < 2 ^ 53)
        → WholeBelow s m e (cond b (fin s m e) (cond s (neg (of_int binary64 (pos (suc q)))) (of_int binary64 (pos q))))
    go false true z f = let w = at_whole (m * up e) (down e) q r h (eqb-true r 0 z) (down_pos e) in (q, (refl, w.0), w.1, w.2)
    go true true z f = let w = at_whole (m * up e) (down e) q r h (eqb-true r 0 z) (down_pos e) in (q, (refl, w.0), w.3, w.4)
    go false false z f = let w = above_cut (m * up e) (down e) q r h k in (q, of_int_val q (le_of_lt (f tt)), w.0, w.1)
    go true false z f =
        let w = below_next (m * up e) (down e) q r h k (positive r (eqb-false r 0 z)) in
        (suc q, neg_value (of_int binary64 (pos (suc q))) false (suc q) 1 (of_int_val (suc q) (f tt)), w.0, w.1)

-- ---- what follows
pub floor_finite : FloorFinite
floor_finite nan t f = absurd f
floor_finite (inf s) t f = absurd f
floor_finite (fin true m e) t f = let w = floor_whole true m e t in value_finite (floor_of (fin true m e)) true w.0 1 w.1
floor_finite (fin false m e) t f = let w = floor_whole false m e t in value_finite (floor_of (fin false m e)) false w.0 1 w.1

pub floor_below : FloorBelow
floor_below nan t f = absurd f
floor_below (inf s) t f = absurd f
floor_below (fin false m e) t f =
    let w = floor_whole false m e t in
    le_of_values (floor_of (fin false m e)) (fin false m e) w.0 1 (m * up e) (down e) (lit< tt) (down_pos e) w.1 (refl, refl)
    (le_trans w.2 (le_of_eq (sym (mul-one (m * up e)))))
floor_below (fin true m e) t f =
    let w = floor_whole true m e t in
    le_by_minus (floor_of (fin true m e)) (fin true m e) w.0 1 (m * up e) (down e) (lit< tt) (down_pos e) w.1 (refl, refl)
    (le_trans (le_of_eq (mul-one (m * up e))) w.2)

-- x less its floor is one rounding of a fraction from 0 to 1
pub floor_rest : FloorRest
unfolding of_bits
floor_rest nan t f = absurd f
floor_rest (inf s) t f = absurd f
floor_rest (fin false m e) t f =
    let w = floor_whole false m e t in
    let b = range (m * up e) (down e) (w.0 * down e) (down_pos e) w.2 (le_trans (le_of_lt w.3) (le_of_eq (next w.0 (down e)))) in
    subst (λ (z : Float). T (le (fin false 0 (pos 0)) z) × T (le z (fin false 1 (pos 0))))
    (sym (sub_round (fin false m e) (floor_of (fin false m e)) false false (m * up e) (down e) w.0 1 (down_pos e) (lit< tt) (refl, refl) w.1
    ∙ sum_pos_neg (m * up e * 1) (w.0 * down e) (down e * 1) b.0))
    (unit_law (m * up e * 1 - w.0 * down e) (down e * 1) b.1 b.2)
  where
    next : (q d : ℕ) → (q + 1) * d ≡ q * d + d
    next q d = omega arith

    range : (n d x : ℕ) → 0 < d → x ≤ n → n ≤ x + d → (x ≤ n * 1) × (0 < d * 1) × (n * 1 - x ≤ d * 1)
    range n d x D h k = (omega arith, omega arith, omega arith)
floor_rest (fin true m e) t f =
    let w = floor_whole true m e t in
    let b = range (m * up e) (down e) (w.0 * down e) (down_pos e) w.2 (le_of_lt w.3) in
    subst (λ (z : Float). T (le (fin false 0 (pos 0)) z) × T (le z (fin false 1 (pos 0))))
    (sym (sub_round (fin true m e) (floor_of (fin true m e)) true true (m * up e) (down e) w.0 1 (down_pos e) (lit< tt) (refl, refl) w.1
    ∙ sum_neg_pos (m * up e * 1) (w.0 * down e) (down e * 1) b.0))
    (unit_law (w.0 * down e - m * up e * 1) (down e * 1) b.1 b.2)
  where
    range : (n d x : ℕ) → 0 < d → n ≤ x → x ≤ n + d → (n * 1 ≤ x) × (0 < d * 1) × (x - n * 1 ≤ d * 1)
    range n d x D h k = (omega arith, omega arith, omega arith)
