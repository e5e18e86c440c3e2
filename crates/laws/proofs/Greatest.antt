-- The greatest f64 and 1 are rounded to that f64. So a finite f64 stays finite where what lies from -1 to 1 is added to it or multiplies it;
-- and a fraction over one that is as large and at least 1 lies from -1 to 1, both rounded.
use mathlib.Core.Bool.{Bool, ◌&&◌, false, not, true}
use mathlib.Core.Path.{◌∙◌, ◌≡◌, ap, refl, subst, sym}
use Prim.Native.Nat.{◌%◌, ◌*◌, ◌+◌, ◌-◌, ◌<◌, ◌^◌, ◌≤◌, suc, zero, zero-le, ℕ}
use native.Mathlib.Nat.{add-le-add, le-add_right, le_of_eq, le_of_lt, le_trans}
use native.Mathlib.Nat.{lt_of_mul-lt-mul_right, mul_assoc, mul_comm, mul-le-mul, mul-le-mul_left, mul-le-mul_right}
use native.Mathlib.Nat.{mul-one, mul-pos, one-mul, zero-mul}
use native.Mathlib.Omega.{arith}
use lib.Dec.{T, eqb, leb, leb→le, lit<, lit≤, ltb, ltb→lt, nleb→lt}
use lib.Ieee.{Float, add, binary64, div, down, fin, fits, inf, mul, nan, neg, round, sub, unlike, up}
use lib.Ieee.Back.{round_whole}
use lib.Ieee.Exact.{HasValue}
use lib.Ieee.Fits.{and_r, down_pos, neg-fits}
use lib.Ieee.Order.{round_mono}
use lib.IntN.{negsuc, pos, ℤ}
use lib.Pow.{pow-add, pow_mono}
use Rattle.laws.proofs.Interval.{Sized, Within, round_sized, under}
use Rattle.laws.proofs.Number.{Signed, round_signed, sum_by, value_finite}
use Rattle.laws.proofs.Order.{values_le}
use Rattle.laws.proofs.Values.{add_round, div_round, fits_small, mul_round, signed_value}
use Rattle.laws.specs.Float.{F64, is_fin}

-- ---- the greatest f64 is (2 ^ 53 - 1) * 2 ^ 971; that and 1 is rounded to a finite number
most : ℕ
most = 9007199254740991 * 2 ^ 971

top : ℕ
unfolding most
top = most + 1

top_finite : T (is_fin (round binary64 false top 1))
unfolding top most round
top_finite = tt

many : 9007199254740992 ≤ most
unfolding most
many = lit≤ tt

-- no f64 is above it
powers : (m k : ℕ) → m < 9007199254740992 → m * 2 ^ k < 2 ^ 1024 → m * 2 ^ k ≤ most
unfolding most
powers m k l h = go (leb k 971) (leb→le k 971) (nleb→lt k 971)
  where
    few : (m : ℕ) → m < 9007199254740992 → m ≤ 9007199254740991
    few m l = omega arith

    over : 971 < k → (j : ℕ) × (k ≡ j + 971)
    over h = (k - 971, omega arith)

    large : (j : ℕ) → k ≡ j + 971 → m * 2 ^ k ≤ 9007199254740991 * 2 ^ 971
    large j e =
        let split : m * 2 ^ k ≡ m * 2 ^ j * 2 ^ 971 = ap (λ (z : ℕ). m * 2 ^ z) e ∙ ap (λ (z : ℕ). m * z) (pow-add 2 j 971)
        ∙ sym (mul_assoc m (2 ^ j) (2 ^ 971)) in
        let less : m * 2 ^ j * 2 ^ 971 < 9007199254740992 * 2 ^ 971 = subst (λ (z : ℕ). z < 2 ^ 1024) split h in
        le_trans (le_of_eq split) (mul-le-mul_right (2 ^ 971) (few (m * 2 ^ j) (lt_of_mul-lt-mul_right (2 ^ 971) less)))

    go : (b : Bool) → (T b → k ≤ 971) → (T (not b) → 971 < k) → m * 2 ^ k ≤ 9007199254740991 * 2 ^ 971
    go true f g = mul-le-mul (few m l) (pow_mono (f tt))
    go false f g = let r = over (g tt) in large r.0 r.1

fits_most : (s : Bool) (m : ℕ) (e : ℤ) → F64 (fin s m e) → m * up e ≤ most * down e
fits_most s zero e t = le_trans (le_of_eq (zero-mul (up e))) zero-le
fits_most s (suc m) (pos k) t =
    le_trans (powers (suc m) k (fits_small s (suc m) (pos k) t) (subst (λ (z : ℕ). suc m * 2 ^ k < z) (mul-one (2 ^ 1024)) bounded))
    (le_of_eq (sym (mul-one most)))
  where
    bounded : suc m * 2 ^ k < 2 ^ 1024 * 1
    bounded =
        ltb→lt (suc m * 2 ^ k) (2 ^ 1024 * 1)
        (and_r (eqb (suc m % 2) 1 && ltb (suc m) (2 ^ 53) && leb 1 (2 ^ 1074)) (ltb (suc m * 2 ^ k) (2 ^ 1024 * 1)) (unfold fits in t))
fits_most s (suc m) (negsuc k) t =
    le_trans (le_of_eq (mul-one (suc m)))
    (le_trans (le_of_lt (fits_small s (suc m) (negsuc k) t))
    (le_trans many (le_trans (le_of_eq (sym (mul-one most))) (mul-le-mul_left most (down_pos (negsuc k))))))

-- ---- what is rounded from as much at most is finite
fin_value : (x : Float) → Signed false x → T (is_fin x) → (a : ℕ) × (c : ℕ) × (0 < c) × HasValue x false a c
fin_value nan p f = absurd f
fin_value (inf s) p f = absurd f
fin_value (fin s m e) p f = (m * up e, down e, down_pos e, (p, refl))

round_finite : (s : Bool) (a c : ℕ) → 0 < c → a ≤ top * c → T (is_fin (round binary64 s a c))
round_finite s a c C h =
    let v = fin_value (round binary64 false top 1) (round_signed false top 1) top_finite in
    let w = under (round binary64 false a c) (round binary64 false top 1) v.0 v.1 (round_signed false a c) v.2 v.3
    (round_mono binary64 a c top 1 C (lit< tt) (le_trans (le_of_eq (mul-one a)) h)) in
    value_finite (round binary64 s a c) s w.0 w.1 (signed_value s a c w.0 w.1 w.4)

-- ---- a finite f64 plus what lies from -1 to 1, and times that
pub add_finite : (x y : Float) → Within 0 x → F64 y → T (is_fin y) → T (is_fin (add binary64 x y))
add_finite x nan w t f = absurd f
add_finite x (inf s) w t f = absurd f
add_finite x (fin u n e) (s, (a, c, C, l, v)) t f =
    subst (λ (z : Float). T (is_fin z)) (sym (add_round x (fin u n e) s u a c (n * up e) (down e) C (down_pos e) v (refl, refl)))
    (sum_by (λ z. T (is_fin z)) s u (a * down e) (n * up e * c) (c * down e)
    (λ r q h. round_finite r q (c * down e) (mul-pos C (down_pos e)) (le_trans h (unfold top in sums a c (n * up e) (down e) most l (fits_most u n e t)))))
  where
    sums : (a c n d g : ℕ) → a ≤ 1 * c → n ≤ g * d → a * d + n * c ≤ (g + 1) * (c * d)
    sums a c n d g h k = le_trans (add-le-add (mul-le-mul_right d h) (mul-le-mul_right c k)) (le_of_eq (same c d g))
      where
        same : (c d g : ℕ) → 1 * c * d + g * d * c ≡ (g + 1) * (c * d)
        same c d g = omega arith

pub sub_finite : (x y : Float) → Within 0 x → F64 y → T (is_fin y) → T (is_fin (sub binary64 x y))
unfolding sub
sub_finite x y w t f = add_finite x (neg y) w (neg-fits binary64 y t) (turned y f)
  where
    turned : (y : Float) → T (is_fin y) → T (is_fin (neg y))
    turned nan h = absurd h
    turned (inf s) h = absurd h
    turned (fin s m e) h = unfold neg in tt

pub mul_finite : (x y : Float) → Within 0 x → F64 y → T (is_fin y) → T (is_fin (mul binary64 x y))
mul_finite x nan w t f = absurd f
mul_finite x (inf s) w t f = absurd f
mul_finite x (fin u n e) (s, (a, c, C, l, v)) t f =
    subst (λ (z : Float). T (is_fin z)) (sym (mul_round x (fin u n e) s u a c (n * up e) (down e) C (down_pos e) v (refl, refl)))
    (round_finite (unlike s u) (a * (n * up e)) (c * down e) (mul-pos C (down_pos e)) (unfold top in times a c (n * up e) (down e) most l (fits_most u n e t)))
  where
    times : (a c n d g : ℕ) → a ≤ 1 * c → n ≤ g * d → a * n ≤ (g + 1) * (c * d)
    times a c n d g h k = le_trans (mul-le-mul h k) (le_trans (le-add_right (1 * c * (g * d)) (c * d)) (le_of_eq (same c d g)))
      where
        same : (c d g : ℕ) → 1 * c * (g * d) + c * d ≡ (g + 1) * (c * d)
        same c d g = omega arith

-- ---- q / c over p / c, where p / c is finite and at least q / c and 1, both rounded
pub over_round : (r : Bool) (q p c : ℕ) → 0 < c → q ≤ p → c ≤ p → T (is_fin (round binary64 false p c))
    → Within 0 (div binary64 (round binary64 r q c) (round binary64 false p c))
over_round r q p c C h k f =
    let n = round binary64 false p c in
    let v = fin_value n (round_signed false p c) f in
    let T = v.0 in
    let D = v.1 in
    let w = under (round binary64 false q c) n T D (round_signed false q c) v.2 v.3 (round_mono binary64 q c p c C C (mul-le-mul_right c h)) in
    let one : 1 * D ≤ T * 1 = values_le (round binary64 false 1 1) n 1 1 T D (lit< tt) v.2 (round_whole binary64 false 1 (lit≤ tt)) v.3
    (round_mono binary64 1 1 p c (lit< tt) C (le_trans (le_of_eq (one-mul c)) (le_trans k (le_of_eq (sym (mul-one p)))))) in
    let P : 0 < T = some T D v.2 one in
    let rounds = div_round (round binary64 r q c) n r w.0 w.1 T D w.2 v.2 P (signed_value r q c w.0 w.1 w.4) v.3 in (
      r,
      subst (Sized r 0) (sym rounds) (round_sized r 0 (w.0 * D) (w.1 * T) (lit≤ tt) (mul-pos w.2 P)
          (le_trans w.3 (le_of_eq (mul_comm T w.1 ∙ sym (one-mul (w.1 * T)))))),
    )
  where
    some : (t d : ℕ) → 0 < d → 1 * d ≤ t * 1 → 0 < t
    some t d h k = omega arith
