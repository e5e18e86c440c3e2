-- The floor of a number above -1 and below 2, worked out by comparisons alone, and what is left over it: what a phase needs.
use Rattle.std.proofs.Common.{◌≡◌, ℕ, zero, suc, ◌+◌, ◌-◌, ◌*◌, ◌/◌, ◌%◌, ◌^◌, ◌<◌, ◌≤◌, Bool, true, false, cond, eqb, ℤ, pos, negsuc, sym, refl, ap, ◌∙◌}
use Rattle.std.proofs.Common.{subst, zero-le, le_trans, le_of_eq, le_of_lt, zero-lt-suc, div-add-mod', zero-mul, mul-one, arith, lit<, lit≤, pow_pos, ltb-false}
use Rattle.std.proofs.Common.{ltb-true, eqb-true}
use mathlib.Core.Bool.{false≢true}
use native.Mathlib.Nat.{div-eq_of_lt-le, mul-mod_left}
use lib.Arith.{lt_of_le-ne}
use lib.Ieee.{Float, binary64, down, fin, fits, inf, le, lt, nan, neg, of_bits, of_int, round, sub, up}
use lib.Ieee.Back.{whole_unique}
use lib.Ieee.Exact.{HasValue}
use lib.Ieee.Fits.{down_pos}
use borrow.Author.Tests.{eqb-false}
use Rattle.laws.proofs.Order.{le_false, lt_by_values}
use Rattle.laws.proofs.Tests.{eqb_no, eqb_yes, leb_yes, of_true}
use Rattle.laws.proofs.Unique.{exp_le, low_of, round_own}
use Rattle.laws.proofs.Values.{exact_at, fits_small, sub_round, sum_pos_neg}
use Rattle.laws.specs.Float.{F64, one, two, zer}
use Rattle.numeric.specs.Floor.{floor_of}

-- ---- the floor of n / d between q and q + 1, and of a whole number
frac_parts : (n d q : ℕ) → q * d < n → n < (q + 1) * d → (n / d ≡ q) × (n % d ≡ 0 → ⊥)
frac_parts n d q h k =
    let at : n / d ≡ q = div-eq_of_lt-le d (le_of_lt h) k in
    (at, λ (z : n % d ≡ 0). bad (n / d * d) (n % d) n (q * d) (div-add-mod' n d) (ap (λ (x : ℕ). x * d) at) z h)
  where
    bad : (a r n b : ℕ) → a + r ≡ n → a ≡ b → r ≡ 0 → b < n → ⊥
    bad a r n b p e z h = omega arith

pub floor_frac : (s : Bool) (m : ℕ) (e : ℤ) (q : ℕ) → q * down e < m * up e → m * up e < (q + 1) * down e
    → floor_of (fin s m e) ≡ cond s (neg (of_int binary64 (pos (suc q)))) (of_int binary64 (pos q))
unfolding floor_of
floor_frac s m e q h k =
    let p = frac_parts (m * up e) (down e) q h k in
    simp (eqb_no (m * up e % down e) 0 p.1, p.0)

pub floor_whole_kept : (s : Bool) (m : ℕ) (e : ℤ) → m * up e % down e ≡ 0 → floor_of (fin s m e) ≡ fin s m e
unfolding floor_of
floor_whole_kept s m e h = simp (eqb_yes (m * up e % down e) 0 h)

pub floor_kept : (s : Bool) (m : ℕ) (e : ℤ) (q : ℕ) → m * up e ≡ q * down e → floor_of (fin s m e) ≡ fin s m e
floor_kept s m e q h = floor_whole_kept s m e (ap (λ (z : ℕ). z % down e) h ∙ mul-mod_left q (down e))

int_one : of_int binary64 (pos 1) ≡ one
unfolding of_int of_bits
int_one = refl

pub none_below : (n d : ℕ) → n < 0 * d → ⊥
none_below n d h = omega arith

pub some_above : (n d : ℕ) → 0 < n * 1 + 0 * d → 0 * d < n
some_above n d h = omega arith

under_one : (n d : ℕ) → n * 1 < 1 * d → n < (0 + 1) * d
under_one n d h = omega arith

-- ---- above 0 and below 1
pub floor_zero : (x : Float) → lt zer x ≡ true → lt x one ≡ true → floor_of x ≡ zer
unfolding lt of_bits
floor_zero nan h k = absurd (false≢true h)
floor_zero (inf true) h k = absurd (false≢true h)
floor_zero (inf false) h k = absurd (false≢true k)
floor_zero (fin true m e) h k = absurd (false≢true h)
floor_zero (fin false m e) h k =
    floor_frac false m e 0 (low (m * up e) (down e) (ltb-true (0 * down e) (m * up e * 1) h))
    (under_one (m * up e) (down e) (ltb-true (m * up e * 1) (1 * down e) k))
    ∙ unfold of_int in refl
  where
    low : (n d : ℕ) → 0 * d < n * 1 → 0 * d < n
    low n d h = omega arith

-- ---- from 1 to below 2
pub floor_one : (x : Float) → F64 x → lt x one ≡ false → lt x two ≡ true → lt zer x ≡ true → floor_of x ≡ one
unfolding lt of_bits
floor_one nan t h k l = absurd (false≢true l)
floor_one (inf true) t h k l = absurd (false≢true l)
floor_one (inf false) t h k l = absurd (false≢true k)
floor_one (fin true m e) t h k l = absurd (false≢true l)
floor_one (fin false m e) t h k l = go (eqb (1 * down e) (m * up e)) refl
  where
    low : (n d : ℕ) → 1 * d ≤ n * 1 → 1 * d ≤ n
    low n d h = omega arith

    top : (n d : ℕ) → n * 1 < 2 * d → n < (1 + 1) * d
    top n d h = omega arith

    go : (b : Bool) → eqb (1 * down e) (m * up e) ≡ b → floor_of (fin false m e) ≡ fin false 1 (pos 0)
    go true q =
        let z = sym (eqb-true (1 * down e) (m * up e) q) in
        floor_kept false m e 1 z
        ∙ whole_unique binary64 (fin false m e) (fin false 1 (pos 0)) false 1 t (unfold fits in tt) (refl, mul-one (m * up e) ∙ z) (refl, refl)
    go false q =
        floor_frac false m e 1
        (lt_of_le-ne (low (m * up e) (down e) (ltb-false (m * up e * 1) (1 * down e) h)) (eqb-false (1 * down e) (m * up e) q))
        (top (m * up e) (down e) (ltb-true (m * up e * 1) (2 * down e) k))
        ∙ unfold of_bits in int_one

-- ---- above -1 and below 0
pub floor_minus : (x : Float) → lt x zer ≡ true → lt (neg one) x ≡ true → floor_of x ≡ neg one
unfolding lt of_bits neg
floor_minus nan h k = absurd (false≢true h)
floor_minus (inf true) h k = absurd (false≢true k)
floor_minus (inf false) h k = absurd (false≢true h)
floor_minus (fin false m e) h k = absurd (none_below (m * up e * 1) (down e) (ltb-true (m * up e * 1) (0 * down e) h))
floor_minus (fin true m e) h k =
    floor_frac true m e 0 (some_above (m * up e) (down e) (ltb-true 0 (m * up e * 1 + 0 * down e) h))
    (under_one (m * up e) (down e) (ltb-true (m * up e * 1) (1 * down e) k))
    ∙ ap neg (unfold of_bits in int_one)

-- ---- what is left: x itself where the floor is 0
pub pos_sub_zer : (x : Float) → F64 x → lt zer x ≡ true → lt x one ≡ true → sub binary64 x zer ≡ x
pos_sub_zer nan t h k = unfold sub in refl
pos_sub_zer (inf true) t h k = absurd (false≢true (unfold lt of_bits in h))
pos_sub_zer (inf false) t h k = absurd (false≢true (unfold lt of_bits in k))
pos_sub_zer (fin true m e) t h k = absurd (false≢true (unfold lt of_bits in h))
pos_sub_zer (fin false m e) t h k =
    sub_round (fin false m e) zer false false (m * up e) (down e) 0 1 (down_pos e) (lit< tt) (refl, refl) (unfold of_bits in (refl, refl))
    ∙ sum_pos_neg (m * up e * 1) (0 * down e) (down e * 1) (le_trans (le_of_eq (zero-mul (down e))) zero-le)
    ∙ same (m * up e) (down e)
    ∙ round_own false (fin false m e) (m * up e) (down e) (down_pos e) t (refl, refl)
  where
    same : (n d : ℕ) → round binary64 false (n * 1 - 0 * d) (d * 1) ≡ round binary64 false n d
    same n d = simp (mul-one, kept n d)
      where
        kept : (n d : ℕ) → n - 0 * d ≡ n
        kept n d = omega arith

-- ---- x from 1 to below 2 less 1 is exact, so it is below 1
rest_value : (m : ℕ) (e : ℤ) → F64 (fin false m e) → 1 * down e ≤ m * up e * 1 → m * up e * 1 < 2 * down e
    → HasValue (round binary64 false (m * up e * 1 - 1 * down e) (down e * 1)) false (m * up e - down e) (down e)
rest_value m (pos k) t h l = subst (λ (z : ℕ). HasValue (round binary64 false (m * 2 ^ k * 1 - 1) 1) false z 1) (nil (m * 2 ^ k) h l).1
    (subst (λ (z : ℕ). HasValue (round binary64 false z 1) false 0 1) (sym (nil (m * 2 ^ k) h l).0) (exact_at false 0 0 (lit< tt) (lit≤ tt)))
  where
    nil : (n : ℕ) → 1 ≤ n * 1 → n * 1 < 2 → (n * 1 - 1 ≡ 0) × (0 ≡ n - 1)
    nil n h l = (omega arith, omega arith)
rest_value zero (negsuc k) t h l = absurd (no (2 ^ suc k) (pow_pos (suc k)) h)
  where
    no : (d : ℕ) → 0 < d → 1 * d ≤ 0 → ⊥
    no d p h = omega arith
rest_value (suc m) (negsuc k) t h l =
    subst (λ (z : ℕ). HasValue (round binary64 false z (2 ^ suc k * 1)) false (suc m * 1 - 2 ^ suc k) (2 ^ suc k)) (flat (suc m) (2 ^ suc k))
    (subst (λ (z : ℕ). HasValue (round binary64 false (suc m * 1 - 2 ^ suc k) z) false (suc m * 1 - 2 ^ suc k) (2 ^ suc k)) (sym (mul-one (2 ^ suc k)))
    (exact_at false (suc m * 1 - 2 ^ suc k) (suc k) (small (suc m) (2 ^ suc k) (fits_small false (suc m) (negsuc k) t)) (exp_le k (low_of m (negsuc k) t))))
  where
    flat : (m d : ℕ) → m * 1 - d ≡ m * 1 * 1 - 1 * d
    flat m d = omega arith

    small : (m d : ℕ) → m < 9007199254740992 → m * 1 - d < 9007199254740992
    small m d h = omega arith

pub rest_below : (x : Float) → F64 x → lt x one ≡ false → lt x two ≡ true → lt zer x ≡ true → le one (sub binary64 x one) ≡ false
rest_below nan t h k l = absurd (false≢true (unfold lt of_bits in l))
rest_below (inf true) t h k l = absurd (false≢true (unfold lt of_bits in l))
rest_below (inf false) t h k l = absurd (false≢true (unfold lt of_bits in k))
rest_below (fin true m e) t h k l = absurd (false≢true (unfold lt of_bits in l))
rest_below (fin false m e) t h k l =
    let lo : 1 * down e ≤ m * up e * 1 = ltb-false (m * up e * 1) (1 * down e) (unfold lt of_bits in h) in
    let hi : m * up e * 1 < 2 * down e = ltb-true (m * up e * 1) (2 * down e) (unfold lt of_bits in k) in
    let is : sub binary64 (fin false m e) one ≡ round binary64 false (m * up e * 1 - 1 * down e) (down e * 1) =
    unfold of_bits in
    (sub_round (fin false m e) (fin false 1 (pos 0)) false false (m * up e) (down e) 1 1 (down_pos e) (zero-lt-suc 0) (refl, refl) (refl, refl)
    ∙ sum_pos_neg (m * up e * 1) (1 * down e) (down e * 1) lo) in
    let v : HasValue (sub binary64 (fin false m e) one) false (m * up e - down e) (down e) =
    subst (λ (z : Float). HasValue z false (m * up e - down e) (down e)) (sym is) (rest_value m e t lo hi) in
    le_false (sub binary64 (fin false m e) one) one
    (of_true (lt (sub binary64 (fin false m e) one) one)
    (lt_by_values (sub binary64 (fin false m e) one) one (m * up e - down e) (down e) 1 1 (down_pos e) (zero-lt-suc 0) v (unfold of_bits in (refl, refl))
    ∙ leb_yes (suc ((m * up e - down e) * 1)) (1 * down e) (ok (m * up e) (down e) (down_pos e) lo hi)))
  where
    ok : (n d : ℕ) → 0 < d → 1 * d ≤ n * 1 → n * 1 < 2 * d → suc ((n - d) * 1) ≤ 1 * d
    ok n d p h l = omega arith
