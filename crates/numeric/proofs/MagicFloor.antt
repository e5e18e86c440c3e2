-- The body of floor: a number from 0 to below 2 ^ 52, plus 2 ^ 52 and less it again, is the whole number nearest to it; the floor is that or one less.
-- Below 0 the signs are turned; from 2 ^ 52 on there is no fraction.
use Rattle.std.proofs.Common.{◌≡◌, ℕ, zero, suc, ◌+◌, ◌-◌, ◌*◌, ◌<◌, ◌≤◌, Bool, true, false, cond, ◌&&◌, eqb, ltb, ℤ, pos, sym, refl, ap, ◌∙◌, subst}
use Rattle.std.proofs.Common.{true≢false, zero-le, le_trans, add-mul, zero-mul, mul-one, arith, lit<, lit≤, ltb-false, ltb-true, eqb-true}
use mathlib.Core.Bool.{false≢true}
use lib.Arith.{lt_of_le-ne}
use lib.Ieee.{Float, add, binary64, down, eq, fin, inf, level, lt, nan, neg, of_bits, of_int, round, sub, sum, up}
use lib.Ieee.Back.{round_whole}
use lib.Ieee.Bits.{is_true}
use lib.Ieee.Exact.{HasValue}
use lib.Ieee.Fits.{and_i, down_pos, eq→eqb}
use borrow.Author.Tests.{eqb-false}
use Rattle.laws.proofs.Near.{near_least, whole_round}
use Rattle.laws.proofs.Order.{eq_by_values, lt_by_values}
use Rattle.laws.proofs.Values.{add_round, lt_by_minus, neg_value, of_int_val, round_neg, round_zero, sub_round, sum_neg_neg, sum_neg_pos, sum_pos_neg}
use Rattle.laws.specs.Float.{F64, one, zer}
use Rattle.numeric.proofs.FloorLaws.{big_whole}
use Rattle.numeric.proofs.RangeLaws.{suc_less}
use Rattle.numeric.proofs.SmallFloor.{floor_frac, floor_kept, floor_whole_kept, none_below, some_above}
use Rattle.numeric.specs.Floor.{floor_of}

-- ---- what `pick` makes of x and a whole number r next to it
abbrev pick : Float → Float → Float
pick x r = cond (lt x r) (sub binary64 r one) (cond (eq r x) x r)

-- x = n / d lies within a half of R
module _ (n d R : ℕ) (D : 0 < d) (hi : R * d * 2 ≤ n * 2 + d) (lo : n * 2 ≤ R * d * 2 + d) where
  below_next : n < (R + 1) * d
  below_next = omega arith

  above_last : (S : ℕ) → R ≡ suc S → S * d < n
  above_last S e = go (ap (λ (z : ℕ). z * d) e)
    where
      go : R * d ≡ suc S * d → S * d < n
      go h = omega arith

next : (S d : ℕ) → (S + 1) * d ≡ suc S * d
next S d = omega arith

pos_pick : (m : ℕ) (e : ℤ) (R : ℕ) → R ≤ 9007199254740992 → R * down e * 2 ≤ m * up e * 2 + down e → m * up e * 2 ≤ R * down e * 2 + down e
    → pick (fin false m e) (of_int binary64 (pos R)) ≡ floor_of (fin false m e)
pos_pick m e R top hi lo =
    simp (
      lt_by_values (fin false m e) (of_int binary64 (pos R)) (m * up e) (down e) R 1 (down_pos e) (lit< tt) (refl, refl) (of_int_val R top),
      eq_by_values false (of_int binary64 (pos R)) (fin false m e) R 1 (m * up e) (down e) (lit< tt) (down_pos e) (of_int_val R top) (refl, refl),
      mul-one,
    )
    (go R top hi lo (ltb (m * up e) (R * down e)) (eqb (R * down e) (m * up e)) refl refl)
  where
    go : (R : ℕ) → R ≤ 9007199254740992 → R * down e * 2 ≤ m * up e * 2 + down e → m * up e * 2 ≤ R * down e * 2 + down e → (a b : Bool)
        → ltb (m * up e) (R * down e) ≡ a → eqb (R * down e) (m * up e) ≡ b
        → cond a (sub binary64 (of_int binary64 (pos R)) one) (cond b (fin false m e) (of_int binary64 (pos R))) ≡ floor_of (fin false m e)
    go zero top hi lo true b p q = absurd (none_below (m * up e) (down e) (ltb-true (m * up e) (0 * down e) p))
    go (suc S) top hi lo true b p q =
        suc_less S top
        ∙ sym (floor_frac false m e S (above_last (m * up e) (down e) (suc S) (down_pos e) hi lo S refl)
        (subst (λ (z : ℕ). m * up e < z) (sym (next S (down e))) (ltb-true (m * up e) (suc S * down e) p)))
    go R top hi lo false true p q = sym (floor_kept false m e R (sym (eqb-true (R * down e) (m * up e) q)))
    go R top hi lo false false p q = sym
        (floor_frac false m e R (lt_of_le-ne (ltb-false (m * up e) (R * down e) p) (eqb-false (R * down e) (m * up e) q))
        (below_next (m * up e) (down e) R (down_pos e) hi lo))

-- the same below 0: r is -R, or +0
minus_less : (R : ℕ) → R ≤ 4503599627370496 → sub binary64 (round binary64 true R 1) one ≡ neg (of_int binary64 (pos (suc R)))
unfolding of_int
minus_less R h =
    sub_round (round binary64 true R 1) one true false R 1 1 1 (lit< tt) (lit< tt) (round_whole binary64 true R (le_trans h (lit≤ tt)))
    (unfold of_bits in (refl, refl))
    ∙ unfold sum in ap (λ (z : ℕ). round binary64 true z 1) (at R)
    ∙ round_neg (suc R) 1
  where
    at : (R : ℕ) → R * 1 + 1 ≡ suc R
    at R = omega arith

neg_pick : (m : ℕ) (e : ℤ) (S : ℕ) → suc S ≤ 4503599627370496 → suc S * down e * 2 ≤ m * up e * 2 + down e → m * up e * 2 ≤ suc S * down e * 2 + down e
    → pick (fin true m e) (round binary64 true (suc S) 1) ≡ floor_of (fin true m e)
neg_pick m e S top hi lo =
    let v = round_whole binary64 true (suc S) (le_trans top (lit≤ tt)) in
    simp (
      lt_by_minus (fin true m e) (round binary64 true (suc S) 1) (m * up e) (down e) (suc S) 1 (down_pos e) (lit< tt) (refl, refl) v,
      eq_by_values true (round binary64 true (suc S) 1) (fin true m e) (suc S) 1 (m * up e) (down e) (lit< tt) (down_pos e) v (refl, refl),
      mul-one,
    )
    (go (ltb (suc S * down e) (m * up e)) (eqb (suc S * down e) (m * up e)) refl refl)
  where
    go : (a b : Bool) → ltb (suc S * down e) (m * up e) ≡ a → eqb (suc S * down e) (m * up e) ≡ b
        → cond a (sub binary64 (round binary64 true (suc S) 1) one) (cond b (fin true m e) (round binary64 true (suc S) 1)) ≡ floor_of (fin true m e)
    go true b p q = minus_less (suc S) top
        ∙ sym (floor_frac true m e (suc S) (ltb-true (suc S * down e) (m * up e) p) (below_next (m * up e) (down e) (suc S) (down_pos e) hi lo))
    go false true p q = sym (floor_kept true m e (suc S) (sym (eqb-true (suc S * down e) (m * up e) q)))
    go false false p q =
        round_neg (suc S) 1
        ∙ unfold of_int in sym (floor_frac true m e S (above_last (m * up e) (down e) (suc S) (down_pos e) hi lo S refl)
        (subst (λ (z : ℕ). m * up e < z) (sym (next S (down e)))
        (lt_of_le-ne (ltb-false (suc S * down e) (m * up e) p) (λ (z : m * up e ≡ suc S * down e). eqb-false (suc S * down e) (m * up e) q (sym z)))))

nil : (n d : ℕ) → n * 1 + 0 * d ≤ 0 → n ≡ 0
nil n d h = omega arith

zer_pick : (m : ℕ) (e : ℤ) → m * up e * 2 ≤ down e → pick (fin true m e) (fin false 0 (pos 0)) ≡ floor_of (fin true m e)
unfolding lt eq
zer_pick m e h = go (ltb 0 (m * up e * 1 + 0 * down e)) (level false (0 * down e) true (m * up e * 1)) refl (both (m * up e) (down e))
  where
    less : sub binary64 (fin false 0 (pos 0)) one ≡ neg (of_int binary64 (pos 1))
    less = unfold sub of_int neg of_bits in refl

    both : (n d : ℕ) → n ≡ 0 → (eqb (0 * d) (n * 1) && eqb (0 * d) 0) ≡ true
    both n d z = is_true (eqb (0 * d) (n * 1) && eqb (0 * d) 0)
        (and_i (eqb (0 * d) (n * 1)) (eqb (0 * d) 0) (eq→eqb (zero-mul d ∙ sym (mul-one n ∙ z))) (eq→eqb (zero-mul d)))

    top : (n d : ℕ) → n * 2 ≤ d → 0 < d → n < (0 + 1) * d
    top n d h p = omega arith

    go : (a b : Bool) → ltb 0 (m * up e * 1 + 0 * down e) ≡ a → (m * up e ≡ 0 → b ≡ true)
        → cond a (sub binary64 (fin false 0 (pos 0)) one) (cond b (fin true m e) (fin false 0 (pos 0))) ≡ floor_of (fin true m e)
    go true b p q =
        less ∙ sym (floor_frac true m e 0 (some_above (m * up e) (down e) (ltb-true 0 (m * up e * 1 + 0 * down e) p)) (top (m * up e) (down e) h (down_pos e)))
    go false b p q =
        let z = nil (m * up e) (down e) (ltb-false 0 (m * up e * 1 + 0 * down e) p) in
        ap (λ (b : Bool). cond b (fin true m e) (fin false 0 (pos 0))) (q z) ∙ sym (floor_kept true m e 0 (z ∙ sym (zero-mul (down e))))

-- ---- the sums
abbrev big : Float
big = of_bits binary64 0x4330000000000000

abbrev up_of : Float → Float
up_of x = sub binary64 (add binary64 x big) big

abbrev down_of : Float → Float
down_of x = add binary64 (sub binary64 x big) big

big_val : HasValue big false 4503599627370496 1
unfolding of_bits
big_val = (refl, refl)

-- n / d + 2 ^ 52 is rounded to the whole number 2 ^ 52 + R, R being nearest to n / d
nearest : (n d : ℕ) → 0 < d → n < 4503599627370496 * d
    → (R : ℕ) × HasValue (round binary64 false (n + 4503599627370496 * d) d) false (4503599627370496 + R) 1 × (R ≤ 4503599627370496) × (R * d * 2 ≤ n * 2 + d)
    × (n * 2 ≤ R * d * 2 + d)
nearest n d D h =
    let w = whole_round (n + 4503599627370496 * d) d D (low n d) (high n d h) in
    let N = w.0 in
    let least : 4503599627370496 ≤ N = near_least N 4503599627370496 (n + 4503599627370496 * d) d D (low n d) w.2.1 in
    let b = back N least in
    let r = shift (N * d) ((N - 4503599627370496) * d) (ap (λ (z : ℕ). z * d) b ∙ add-mul 4503599627370496 (N - 4503599627370496) d) w.2.0 w.2.1 in
    (N - 4503599627370496, subst (λ (z : ℕ). HasValue (round binary64 false (n + 4503599627370496 * d) d) false z 1) b w.1, most N w.3, r.0, r.1)
  where
    low : (n d : ℕ) → 4503599627370496 * d ≤ n + 4503599627370496 * d
    low n d = omega arith

    high : (n d : ℕ) → n < 4503599627370496 * d → n + 4503599627370496 * d < 9007199254740992 * d
    high n d h = omega arith

    back : (N : ℕ) → 4503599627370496 ≤ N → N ≡ 4503599627370496 + (N - 4503599627370496)
    back N g = omega arith

    most : (N : ℕ) → N ≤ 9007199254740992 → N - 4503599627370496 ≤ 4503599627370496
    most N g = omega arith

    shift : (x y : ℕ) → x ≡ 4503599627370496 * d + y → x * 2 ≤ (n + 4503599627370496 * d) * 2 + d → (n + 4503599627370496 * d) * 2 ≤ x * 2 + d
        → (y * 2 ≤ n * 2 + d) × (n * 2 ≤ y * 2 + d)
    shift x y e h k = (omega arith, omega arith)

up_sum : (m : ℕ) (e : ℤ) → m * up e < 4503599627370496 * down e → pick (fin false m e) (up_of (fin false m e)) ≡ floor_of (fin false m e)
up_sum m e h =
    let w = nearest (m * up e) (down e) (down_pos e) h in
    let R = w.0 in
    let t : HasValue (add binary64 (fin false m e) big) false (4503599627370496 + R) 1 =
    subst (λ (z : Float). HasValue z false (4503599627370496 + R) 1)
    (sym (add_round (fin false m e) big false false (m * up e) (down e) 4503599627370496 1 (down_pos e) (lit< tt) (refl, refl) big_val
    ∙ plain (m * up e) (down e))) w.1 in
    ap (λ (r : Float). pick (fin false m e) r)
    (sub_round (add binary64 (fin false m e) big) big false false (4503599627370496 + R) 1 4503599627370496 1 (lit< tt) (lit< tt) t big_val
    ∙ sum_pos_neg ((4503599627370496 + R) * 1) 4503599627370496 1 (least R)
    ∙ whole R)
    ∙ pos_pick m e R (le_trans w.2 (lit≤ tt)) w.3 w.4
  where
    plain : (n d : ℕ) → sum binary64 false (n * 1) false (4503599627370496 * d) (d * 1) ≡ round binary64 false (n + 4503599627370496 * d) d
    plain n d = unfold sum in simp (mul-one)

    least : (R : ℕ) → 4503599627370496 ≤ (4503599627370496 + R) * 1
    least R = omega arith

    whole : (R : ℕ) → round binary64 false ((4503599627370496 + R) * 1 - 4503599627370496) 1 ≡ of_int binary64 (pos R)
    whole R = unfold of_int in ap (λ (z : ℕ). round binary64 false z 1) (rest R)
      where
        rest : (R : ℕ) → (4503599627370496 + R) * 1 - 4503599627370496 ≡ R
        rest R = omega arith

down_sum : (m : ℕ) (e : ℤ) → m * up e < 4503599627370496 * down e → pick (fin true m e) (down_of (fin true m e)) ≡ floor_of (fin true m e)
down_sum m e h =
    let w = nearest (m * up e) (down e) (down_pos e) h in
    let R = w.0 in
    let t : HasValue (sub binary64 (fin true m e) big) true (4503599627370496 + R) 1 =
    subst (λ (z : Float). HasValue z true (4503599627370496 + R) 1)
    (sym (sub_round (fin true m e) big true false (m * up e) (down e) 4503599627370496 1 (down_pos e) (lit< tt) (refl, refl) big_val
    ∙ plain (m * up e) (down e) ∙ round_neg (m * up e + 4503599627370496 * down e) (down e)))
    (neg_value (round binary64 false (m * up e + 4503599627370496 * down e) (down e)) false (4503599627370496 + R) 1 w.1) in
    ap (λ (r : Float). pick (fin true m e) r)
    (add_round (sub binary64 (fin true m e) big) big true false (4503599627370496 + R) 1 4503599627370496 1 (lit< tt) (lit< tt) t big_val)
    ∙ go R w.2 w.3 w.4
  where
    plain : (n d : ℕ) → sum binary64 true (n * 1) true (4503599627370496 * d) (d * 1) ≡ round binary64 true (n + 4503599627370496 * d) d
    plain n d = unfold sum in simp (mul-one)

    flat : (n d : ℕ) → n * 2 ≤ 0 * d * 2 + d → n * 2 ≤ d
    flat n d h = omega arith

    less : (S : ℕ) → 4503599627370496 < (4503599627370496 + suc S) * 1
    less S = omega arith

    rest : (S : ℕ) → (4503599627370496 + suc S) * 1 - 4503599627370496 ≡ suc S
    rest S = omega arith

    go : (R : ℕ) → R ≤ 4503599627370496 → R * down e * 2 ≤ m * up e * 2 + down e → m * up e * 2 ≤ R * down e * 2 + down e
        → pick (fin true m e) (sum binary64 true ((4503599627370496 + R) * 1) false 4503599627370496 1) ≡ floor_of (fin true m e)
    go zero top hi lo =
        ap (λ (r : Float). pick (fin true m e) r) (sum_neg_pos 4503599627370496 4503599627370496 1 (lit≤ tt) ∙ round_zero false 1 (lit< tt))
        ∙ zer_pick m e (flat (m * up e) (down e) lo)
    go (suc S) top hi lo =
        ap (λ (r : Float). pick (fin true m e) r)
        (sum_neg_neg ((4503599627370496 + suc S) * 1) 4503599627370496 1 (less S) ∙ ap (λ (z : ℕ). round binary64 true z 1) (rest S))
        ∙ neg_pick m e S top hi lo

-- -0 goes the way of the numbers that are not below 0
minus_zero : (m : ℕ) (e : ℤ) → m * up e ≡ 0 → pick (fin true m e) (up_of (fin true m e)) ≡ floor_of (fin true m e)
minus_zero m e h =
    let v : HasValue (fin true m e) true 0 1 = (refl, mul-one (m * up e) ∙ h ∙ sym (zero-mul (down e))) in
    let t : HasValue (add binary64 (fin true m e) big) false 4503599627370496 1 =
    subst (λ (z : Float). HasValue z false 4503599627370496 1)
    (sym (add_round (fin true m e) big true false 0 1 4503599627370496 1 (lit< tt) (lit< tt) v big_val ∙ sum_neg_pos 0 4503599627370496 1 (lit≤ tt)))
    (round_whole binary64 false 4503599627370496 (lit≤ tt)) in
    ap (λ (r : Float). pick (fin true m e) r)
    (sub_round (add binary64 (fin true m e) big) big false false 4503599627370496 1 4503599627370496 1 (lit< tt) (lit< tt) t big_val
    ∙ sum_pos_neg 4503599627370496 4503599627370496 1 (lit≤ tt) ∙ round_zero false 1 (lit< tt))
    ∙ zer_pick m e (subst (λ (z : ℕ). z * 2 ≤ down e) (sym h) zero-le)

-- ---- the four ways of the body
one_less : (n c : ℕ) → n * 1 < c → n < c
one_less n c h = omega arith

pub floor_up : (x : Float) → lt x zer ≡ false → lt x big ≡ true → pick x (up_of x) ≡ floor_of x
floor_up nan h k = absurd (false≢true (unfold lt of_bits in k))
floor_up (inf true) h k = absurd (true≢false (unfold lt of_bits in h))
floor_up (inf false) h k = absurd (false≢true (unfold lt of_bits in k))
floor_up (fin false m e) h k =
    up_sum m e (one_less (m * up e) (4503599627370496 * down e) (ltb-true (m * up e * 1) (4503599627370496 * down e) (unfold lt of_bits in k)))
floor_up (fin true m e) h k = minus_zero m e (nil (m * up e) (down e) (ltb-false 0 (m * up e * 1 + 0 * down e) (unfold lt of_bits in h)))

pub floor_down : (x : Float) → lt x zer ≡ true → lt (neg big) x ≡ true → pick x (down_of x) ≡ floor_of x
floor_down nan h k = absurd (false≢true (unfold lt of_bits in h))
floor_down (inf true) h k = absurd (false≢true (unfold lt of_bits neg in k))
floor_down (inf false) h k = absurd (false≢true (unfold lt of_bits in h))
floor_down (fin true m e) h k =
    down_sum m e (one_less (m * up e) (4503599627370496 * down e) (ltb-true (m * up e * 1) (4503599627370496 * down e) (unfold lt of_bits neg in k)))
floor_down (fin false m e) h k = absurd (none_below (m * up e * 1) (down e) (ltb-true (m * up e * 1) (0 * down e) (unfold lt of_bits in h)))

pub floor_high : (x : Float) → F64 x → lt x zer ≡ false → lt x big ≡ false → floor_of x ≡ x
floor_high nan t h k = unfold floor_of in refl
floor_high (inf s) t h k = unfold floor_of in refl
floor_high (fin false m e) t h k =
    floor_whole_kept false m e (big_whole false m e t (ltb-false (m * up e * 1) (4503599627370496 * down e) (unfold lt of_bits in k)))
floor_high (fin true m e) t h k = absurd (no (m * up e) (down e) (down_pos e) (ltb-false 0 (m * up e * 1 + 4503599627370496 * down e) (unfold lt of_bits in k)))
  where
    no : (n d : ℕ) → 0 < d → n * 1 + 4503599627370496 * d ≤ 0 → ⊥
    no n d D h = omega arith

pub floor_low : (x : Float) → F64 x → lt x zer ≡ true → lt (neg big) x ≡ false → floor_of x ≡ x
floor_low nan t h k = unfold floor_of in refl
floor_low (inf s) t h k = unfold floor_of in refl
floor_low (fin true m e) t h k =
    floor_whole_kept true m e (big_whole true m e t (ltb-false (m * up e * 1) (4503599627370496 * down e) (unfold lt of_bits neg in k)))
floor_low (fin false m e) t h k = absurd (none_below (m * up e * 1) (down e) (ltb-true (m * up e * 1) (0 * down e) (unfold lt of_bits in h)))
